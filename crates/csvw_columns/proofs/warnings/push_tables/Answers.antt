-- The warnings of one more table.
use Rattle.csvw_description.specs.Unknown.{in_table}
use Rattle.csvw_columns.proofs.MapLemmas.{flat_longer}
use Rattle.csvw_columns.proofs.warnings.push_tables.Goals as goal

pub loop-table-preserved : goal.loop-table-preserved
loop-table-preserved c =
    flat_longer in_table c.args.tables.now c.loop-table.table-index c.table-item.result _ c.loop-table-test.true c.table-item.is c.loop-table.invariant
    c.in_ok-push_table.ensures
