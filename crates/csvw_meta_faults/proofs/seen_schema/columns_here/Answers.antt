-- The values of an array are those of its items.
use Rattle.std.proofs.Common.{◌≡◌, List, IfOk, map, sym, subst}
use Rattle.serde_json.specs.View.{view}
use Rattle.csvw_description.specs.declared.column.ColumnDescription.{ColumnDescription}
use Rattle.csvw_meta_core.specs.Pointer.{text_of}
use Rattle.csvw_meta.specs.Column.{column}
use Rattle.csvw_meta.specs.declared.schema.TheConstants.{MAX_COLUMNS}
use Rattle.csvw_meta_faults.specs.Seen.{bare_column}
use Rattle.csvw_meta_faults.proofs.ItemsLemmas.{several_value}
use Rattle.csvw_meta_faults.proofs.seen_schema.columns_here.Goals as goal

pub returns : goal.returns
returns c = λ table.
    let at = text_of c.args.part.now.at in
    let d = view c.args.part.now.value.now in
    subst (λ (cs : List ColumnDescription). IfOk c.each_seen.result (λ found. found ≡ map bare_column cs))
    (sym (several_value 0 MAX_COLUMNS (column c.args.context.now table) at d))
    (rw c.array_items.ensures at (c.each_seen.ensures table))
