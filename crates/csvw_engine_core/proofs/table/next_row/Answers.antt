-- The row that is lent: taken, or refused.
use Rattle.std.proofs.Common.{refl}
use Rattle.std.proofs.lemmas.Result.{err_from_is_err_and}
use Rattle.csvw_rows.specs.RowValue.{row_of}
use Rattle.csvw_engine_core.proofs.Steps.{row_taken, row_refused, row_fits, begun, nothing_taken, records_stopped, step_stops}
use Rattle.csvw_engine_core.proofs.table.next_row.Goals as goal

pub returns-in_ok-annotated-in-Some : goal.returns-in_ok-annotated-in-Some
returns-in_ok-annotated-in-Some c =
    let a = rw (c.in-Ok-Some.is, c.in-Ok-Some.field-0-is) at c.next.follows.holds-at-none in
    let is = c.in_ok-annotated-in-Some.ensures c.in-Some.columns c.annotate_into-row.ensures in (
      record { ended = a.0; columns = λ columns e. e; faults = refl; number = refl; mode = refl },
      a.1,
      row_fits c.annotated_rows_have_forms.ensures c.args.table.now.head.columns c.in-Some.columns c.in_ok-annotated-in-Some.field-0
          (row_of c.in-Ok-Some.raw) c.in-Some.is is,
      row_taken c.args.plan.now c.args.table.now _
          (row_of c.in-Ok-Some.raw) a.2 refl refl c.in-Some.columns c.in_ok-annotated-in-Some.field-0 refl c.in-Some.is is,
    )

pub returns-in_err-annotated-in-Some : goal.returns-in_err-annotated-in-Some
returns-in_err-annotated-in-Some c =
    let a = rw (c.in-Ok-Some.is, c.in-Ok-Some.field-0-is) at c.next.follows.holds-at-none in
    let p = err_from_is_err_and c.from_residual.result c.from_residual.ensures.1 in
    step_stops c.args.plan.now c.args.table.now _ c.from_residual.result p.0 _ p.1 p.2 a.0
    (row_refused c.args.plan.now c.args.table.now c.next.follows.lender-at-none
    (row_of c.in-Ok-Some.raw) a.2 c.given_first.ensures c.in-Some.columns _ c.in-Some.is
    (c.in_err-annotated-in-Some.ensures c.in-Some.columns c.annotate_into-row.ensures))

pub returns-in-None : goal.returns-in-None
returns-in-None c =
    let a = rw (c.in-Ok-Some.is, c.in-Ok-Some.field-0-is) at c.next.follows.holds-at-none in
    begun c.args.plan.now c.args.table.now _ (row_of c.in-Ok-Some.raw) a.2 c.given_first.ensures c.annotated_rows_have_forms.ensures c.in-None.is a.0
    a.1 refl refl refl c.begin.result c.begin.ensures

pub returns-in-Ok-None : goal.returns-in-Ok-None
returns-in-Ok-None c =
    let a = rw (c.in-Ok-None.is, c.in-Ok-None.field-0-is) at c.next.follows.holds-at-none in (
      record { ended = a.0; columns = λ columns e. e; faults = refl; number = refl; mode = refl },
      nothing_taken c.args.plan.now c.args.table.now _ a.1 a.2 refl refl refl,
    )

pub returns-in-Err : goal.returns-in-Err
returns-in-Err c =
    let a = rw c.in-Err.is at c.next.follows.holds-at-none in
    (a.0, rw (c.of_row_stop.ensures, c.row.ensures) (records_stopped c.args.plan.now c.args.table.now c.in-Err.stop _ a.1))
