-- Nothing was read.
use Rattle.std.proofs.Common.{refl, subst, [], false}
use Rattle.csvw_records.specs.declared.dialect.Dialect.{Dialect}
use Rattle.csvw_rows.specs.RowsState.{Holds}
use Rattle.csvw_engine_core.specs.Tables.{max_rows}
use Rattle.csvw_engine_core.proofs.Steps.{head_at_start, rows_at_start}
use Rattle.csvw_engine_core.proofs.table.Table.new.Goals as goal

pub returns : goal.returns
returns c = record {
  not_ended = c.in_ok-new.ensures.ended;
  holds = record {
    number_is = refl;
    mode_is = refl;
    reader = subst (λ (d : Dialect). Holds c.in_ok-new.field-0 d max_rows [] false []) c.in_ok-clone.ensures c.in_ok-new.ensures.holds;
    head = head_at_start c.args.plan.now c.new-2.result c.new-2.ensures;
    has = rows_at_start c.args.plan.now c.new-2.result c.new-2.ensures;
  };
  no_faults = c.new-3.ensures;
}
