-- The row that comes next is the last so far.
use Rattle.csvw_columns_core.proofs.HeaderLemmas.{last_more}
use Rattle.csvw_columns_core.proofs.header.last_source.Goals as goal

pub loop-row-preserved : goal.loop-row-preserved
loop-row-preserved c = last_more c.args.rows.now c.loop-row.row-index c.row-item.result c.loop-row-test.true c.row-item.is
