-- The faults of a key come before those of the remaining ones.
use Rattle.csvw_meta_keys.specs.Naming.{foreign_faults}
use Rattle.csvw_meta_faults.specs.Targets.{known_in, targets_in}
use Rattle.csvw_meta_faults.proofs.FaultsLemmas.{each_done, each_more}
use Rattle.csvw_meta_faults.proofs.references.find_each_foreign.Goals as goal

pub loop-key-preserved : goal.loop-key-preserved
loop-key-preserved c =
    each_more (foreign_faults (known_in c.args.scene.now c.args.own.known) c.args.own.names.now (targets_in c.args.scene.now)) _
    c.find_foreign.new.faults.items c.loop-key.faults.items c.loop-key.key-index c.key-item.result c.args.keys.now c.loop-key-test.true c.key-item.is
    c.loop-key.invariant c.in_ok-find_foreign.ensures

pub returns : goal.returns
returns c =
    each_done (foreign_faults (known_in c.args.scene.now c.args.own.known) c.args.own.names.now (targets_in c.args.scene.now)) _
    c.loop-key.faults.items c.loop-key.key-index c.args.keys.now c.loop-key-test.false c.loop-key.invariant
