-- The values of an array are those of its items.
use Rattle.std.proofs.Common.{◌≡◌, List, IfOk, map, sym, subst}
use Rattle.serde_json.specs.View.{view}
use Rattle.csvw_meta_core.specs.Pointer.{text_of}
use Rattle.csvw_meta.specs.Table.{table}
use Rattle.csvw_meta.specs.declared.group.TheConstants.{MAX_TABLES}
use Rattle.csvw_meta.specs.declared.table.TableFound.{TableFound}
use Rattle.csvw_meta_faults.specs.Seen.{as_table, bare_table}
use Rattle.csvw_meta_faults.proofs.ItemsLemmas.{several_value}
use Rattle.csvw_meta_faults.proofs.seen_group.tables_here.Goals as goal

pub returns : goal.returns
returns c =
    let at = text_of c.args.part.now.at in
    let d = view c.args.part.now.value.now in
    subst (λ (ts : List TableFound). IfOk c.each_seen.result (λ found. map as_table found ≡ map bare_table ts))
    (sym (several_value 1 MAX_TABLES (table c.args.context.now) at d)) (rw c.array_items.ensures at c.each_seen.ensures)
