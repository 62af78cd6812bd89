-- Cells of texts have no links yet, and have values with lexical forms.
use Rattle.std.proofs.Common.{sym, subst}
use Rattle.csvw_rows.specs.RowValue.{row_of}
use Rattle.csvw_annotate.specs.HasForms.{CellsHaveForms}
use Rattle.csvw_annotate.specs.Linked.{ArePlain}
use Rattle.csvw_annotate.proofs.FormsLemmas.{are_plain, cells_forms}
use Rattle.csvw_annotate.proofs.annotating.annotate_into.Goals as goal

pub link_row-requires-clause-plain : goal.link_row-requires-clause-plain
link_row-requires-clause-plain c =
    subst ArePlain (sym c.as_mut_slice.ensures.value)
    (are_plain c.as_slice.result.now (row_of c.args.row.now).fields c.in_ok-cells.cells.items c.in_ok-cells.ensures.cells)

pub link_row-requires-clause-forms : goal.link_row-requires-clause-forms
link_row-requires-clause-forms c =
    subst CellsHaveForms (sym c.as_mut_slice.ensures.value)
    (cells_forms c.values_of_texts.ensures.writable c.as_slice.result.now (row_of c.args.row.now).fields c.in_ok-cells.cells.items c.in_ok-cells.ensures.cells)
