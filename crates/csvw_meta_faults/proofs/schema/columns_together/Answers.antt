-- The rules don't look at what is left out of what is seen of a column.
use Rattle.std.proofs.Common.{◌≡◌, ◌∙◌, IfOk, List, ap, subst}
use Rattle.serde_json.specs.View.{view}
use Rattle.csvw_meta_core.specs.declared.fault.MetaFault.{MetaFault}
use Rattle.csvw_meta_core.specs.Pointer.{text_of}
use Rattle.csvw_meta_core.specs.Several.{several}
use Rattle.csvw_meta.specs.Column.{column}
use Rattle.csvw_meta.specs.Schema.{column_faults}
use Rattle.csvw_meta.specs.declared.schema.TheConstants.{MAX_COLUMNS}
use Rattle.csvw_meta_faults.proofs.ColumnsLemmas.{bare_column_faults}
use Rattle.csvw_meta_faults.proofs.schema.columns_together.Goals as goal

pub returns : goal.returns
returns c = λ table.
    let at = text_of c.args.part.now.at in
    let own = c.args.own.now in
    let all = several 0 MAX_COLUMNS (column c.args.context.now table) at (view c.args.part.now.value.now) in
    subst (λ (fs : List MetaFault). IfOk c.column_faults.result (λ found. found ≡ fs))
    (ap (column_faults at own) (c.in_ok-columns.ensures table) ∙ bare_column_faults at own all.value)
    (rw c.as_slice.ensures at c.column_faults.ensures)
