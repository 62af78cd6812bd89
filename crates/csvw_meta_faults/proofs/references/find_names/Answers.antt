-- The fault of a name comes before those of the remaining ones.
use Rattle.std.proofs.Common.{true}
use Rattle.csvw_meta_keys.specs.Naming.{name_fault}
use Rattle.csvw_meta_faults.specs.Targets.{known_in}
use Rattle.csvw_meta_faults.proofs.FaultsLemmas.{each_done, each_more}
use Rattle.csvw_meta_faults.proofs.references.find_names.Goals as goal

pub loop-name-preserved : goal.loop-name-preserved
loop-name-preserved c =
    each_more (name_fault (known_in c.args.scene.now true) c.args.names.now) _ c.find_name.new.faults.items c.loop-name.faults.items
    c.loop-name.name-index c.name-item.result c.args.key.now c.loop-name-test.true c.name-item.is c.loop-name.invariant c.in_ok-find_name.ensures

pub returns : goal.returns
returns c =
    each_done (name_fault (known_in c.args.scene.now true) c.args.names.now) _ c.loop-name.faults.items c.loop-name.name-index c.args.key.now
    c.loop-name-test.false c.loop-name.invariant
