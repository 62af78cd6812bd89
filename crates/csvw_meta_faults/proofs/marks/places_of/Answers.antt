-- The set has one more place.
use Rattle.csvw_meta_core.specs.Rules.{is_at}
use Rattle.csvw_meta_faults.proofs.SetLemmas.{any_more}
use Rattle.csvw_meta_faults.proofs.marks.places_of.Goals as goal

pub loop-fault-preserved : goal.loop-fault-preserved
loop-fault-preserved c = λ p.
    any_more (is_at p) c.args.faults.now c.loop-fault.fault-index c.fault-item.result _ _ c.loop-fault-test.true c.fault-item.is (c.loop-fault.invariant p)
    (c.in_ok-add_place.ensures p)
