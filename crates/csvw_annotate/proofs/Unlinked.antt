-- If no column has a template, the cells of a row have no links.
use Rattle.std.proofs.Common.{◌≡◌, ◌∙◌, List, [], ◌∷◌, length, refl, sym, ap, arith, Bool, true, false}
use Rattle.std.specs.Prelude.{◌||◌}
use Rattle.std.specs.List.{list_any}
use Rattle.std.proofs.lemmas.Bool.{false≢true}
use Rattle.csvw_columns_core.specs.declared.column.Column.{Column}
use Rattle.csvw_columns_core.specs.declared.columns.Columns.{Columns}
use Rattle.csvw_cell.specs.declared.cell.CellValue.{CellValue}
use Rattle.csvw_annotate.specs.CellVariables.{variables}
use Rattle.csvw_annotate.specs.Links.{has_template}
use Rattle.csvw_annotate.specs.declared.numbers.RowNumbers.{RowNumbers}
use Rattle.csvw_annotate.specs.declared.row.AnnCell.{AnnCell}
use Rattle.csvw_annotate.specs.Linked.{ArePlain, each_linked, linked_in}
use Rattle.csvw_annotate.proofs.LinkLemmas.{no_links}

neither : (a b : Bool) → (a || b) ≡ false → (a ≡ false) × (b ≡ false)
neither false b e = (refl, e)
neither true b e = absurd (false≢true (sym e))

pub unlinked : (columns : Columns) (row : RowNumbers) (values : List CellValue) (each : List Column) (cells : List AnnCell) → length cells ≡ length each
    → list_any has_template each ≡ false → ArePlain cells → each_linked (linked_in columns row values) each cells ≡ cells
unlinked columns row values [] [] long none plain = refl
unlinked columns row values [] (cell ∷ cells) long none plain = absurd (omega (arith, long))
unlinked columns row values (column ∷ each) [] long none plain = absurd (omega (arith, long))
unlinked columns row values (column ∷ each) (cell ∷ cells) long none plain =
    let no = neither (has_template column) (list_any has_template each) none in
    ap (λ x. x ∷ each_linked (linked_in columns row values) each cells)
    (no_links columns.url (variables row column columns.columns values) column cell no.0 plain.0)
    ∙ ap (λ xs. cell ∷ xs) (unlinked columns row values each cells (omega (arith, long)) no.1 plain.1)
