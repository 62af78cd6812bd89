-- The faults of an item come before those of the remaining ones.
use Rattle.csvw_meta_core.specs.Pointer.{text_of}
use Rattle.csvw_meta_keys.specs.ForeignKeys.{foreign_key}
use Rattle.csvw_meta_faults_parts.proofs.FaultsLemmas.{goes_on, is_done}
use Rattle.csvw_meta_faults_parts.proofs.keys.find_each.Goals as goal

pub loop-i-preserved : goal.loop-i-preserved
loop-i-preserved c = λ place.
    goes_on (λ n. foreign_key c.args.context.now.profile c.args.context.now.base place) (text_of c.args.part.now.at) _
    c.find_in_item.new.faults.items c.loop-i.faults.items
    c.loop-i.i c.index-items-i.result
    c.args.items.now c.loop-i-test.true c.index-items-i.is (c.loop-i.invariant place) (c.in_ok-find_in_item.ensures place)

pub returns : goal.returns
returns c = λ place.
    is_done (λ n. foreign_key c.args.context.now.profile c.args.context.now.base place) (text_of c.args.part.now.at) _ c.loop-i.faults.items
    c.loop-i.i c.args.items.now c.loop-i-test.false (c.loop-i.invariant place)
