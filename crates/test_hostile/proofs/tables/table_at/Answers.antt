-- The table is at that index.
use Rattle.std.proofs.Common.{◌≡◌, List, Some, refl, subst}
use Rattle.std.specs.Prelude.{slice_get}
use Rattle.std.proofs.lemmas.Option.{slice_get_read}
use Rattle.csvw_columns.specs.declared.plan.TablePlan.{TablePlan}
use Rattle.test_hostile.proofs.tables.table_at.Goals as goal

pub returns-in-Some : goal.returns-in-Some
returns-in-Some c =
    let table = c.in-Some.table.now in
    let item = c.in-Some.ensures.lookup in
    let lent = slice_get_read c.tables.result.now _ c.args.i table refl item.3.0 item.1 in
    let at = subst (λ (ts : List TablePlan). slice_get ts c.args.i ≡ Some table) c.tables.ensures lent in
    c.each_table_is_ready.ensures c.args.plan.now.tables c.args.i table c.requires at
