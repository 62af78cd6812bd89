-- One key more.
use Rattle.csvw_columns.specs.Keys.{foreign_key}
use Rattle.csvw_columns.proofs.MapLemmas.{map_longer}
use Rattle.csvw_columns.proofs.references.each_foreign_key.Goals as goal

pub loop-key-preserved : goal.loop-key-preserved
loop-key-preserved c =
    let targets = c.args.targets.now in
    map_longer (foreign_key targets.urls targets.names c.args.own.now) c.args.keys.now c.loop-key.key-index c.key-item.result c.loop-key-test.true c.key-item.is
    c.loop-key.invariant c.in_ok-push.ensures.items c.in_ok-plan.ensures
