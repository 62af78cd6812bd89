-- The plan at the place is ready, as all are; it is that of the table, and so is the file.
use Rattle.std.proofs.Common.{◌≡◌, ◌∙◌, ◌-◌, ℕ, List, Some, ap, arith, refl, sym, subst}
use Rattle.std.specs.Prelude.{slice_get, option_map}
use Rattle.std.proofs.lemmas.Option.{slice_get-map, slice_get_read}
use Rattle.csvw_columns.specs.Ready.{AreReady}
use Rattle.csvw_columns.specs.declared.plan.TablePlan.{TablePlan}
use Rattle.csvw_parts.proofs.Ready.{ready_at}
use Rattle.csvw_parts.proofs.run.asked_of.Goals as goal

pub returns-clause-ready : goal.returns-clause-ready
returns-clause-ready c = λ ready.
    let place = c.in_ok-place.place in
    let table = c.in_ok-table.table.now in
    let item = c.in_ok-table.ensures.lookup in
    ready_at c.tables.result.now place table (subst AreReady (sym c.tables.ensures) ready)
    (slice_get_read c.tables.result.now _ place table refl item.3.0 item.1)

pub returns-clause-is_table : goal.returns-clause-is_table
returns-clause-is_table c =
    let request = c.args.request in
    let place = c.in_ok-place.place in
    let table = c.in_ok-table.table.now in
    let file = c.in_ok-file.file.now in
    let item = c.in_ok-table.ensures.lookup in
    let other = c.in_ok-file.ensures.lookup in
    let some = c.in_ok-place.ensures in
    record {
      from_one = omega (arith, some.0);
      plan_is = subst (λ (l : List TablePlan). slice_get l (c.args.piece.table - 1) ≡ Some table) c.tables.ensures
          (subst (λ (n : ℕ). slice_get c.tables.result.now n ≡ Some table) some.1
          (slice_get_read c.tables.result.now _ place table refl item.3.0 item.1));
      file_is = slice_get-map (λ f. f.now) request.files.now (c.args.piece.table - 1)
          ∙ ap (option_map (λ f. f.now)) (subst (λ (n : ℕ). slice_get request.files.now n ≡ Some file) some.1
          (slice_get_read request.files.now _ place file refl other.3.0 other.1));
    }
