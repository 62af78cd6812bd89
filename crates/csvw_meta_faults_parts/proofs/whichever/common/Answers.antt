-- One more fault is kept or not.
use Rattle.std.specs.List.{list_all}
use Rattle.csvw_meta_datatype.specs.Whichever.{is_among}
use Rattle.csvw_meta_faults_parts.proofs.WhicheverLemmas.{keeps}
use Rattle.csvw_meta_faults_parts.proofs.whichever.common.Goals as goal

pub loop-fault-preserved : goal.loop-fault-preserved
loop-fault-preserved c =
    keeps (λ f. list_all (λ other. is_among other f) c.in-Some.others.now) c.as_slice-fault-items.result.now c.loop-fault.fault-index c.fault-item.result
    c.loop-fault.kept.items c.keep_if.new.kept.items _ c.loop-fault-test.true c.fault-item.is c.loop-fault.invariant c.is_in_each-keep.ensures
    c.in_ok-keep_if.ensures
