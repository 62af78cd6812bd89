-- One name more.
use Rattle.csvw_columns_core.specs.declared.column.Column.{Column}
use Rattle.csvw_columns.proofs.MapLemmas.{map_longer}
use Rattle.csvw_columns.proofs.names.names_of.Goals as goal

pub loop-column-preserved : goal.loop-column-preserved
loop-column-preserved c =
    map_longer (λ (column : Column). column.name) c.args.columns.now c.loop-column.column-index c.column-item.result c.loop-column-test.true c.column-item.is
    c.loop-column.invariant c.in_ok-push.ensures.items c.in_ok-name.ensures
