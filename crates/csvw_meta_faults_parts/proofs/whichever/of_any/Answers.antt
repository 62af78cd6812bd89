-- One more fault is kept or not.
use Rattle.std.proofs.Common.{ap, not}
use Rattle.csvw_meta_core.specs.declared.fault.MetaCode.TheVariants.{BadDatatype}
use Rattle.csvw_meta_datatype.specs.Whichever.{is_same_code}
use Rattle.csvw_meta_faults_parts.proofs.WhicheverLemmas.{keeps}
use Rattle.csvw_meta_faults_parts.proofs.whichever.of_any.Goals as goal

pub loop-fault-preserved : goal.loop-fault-preserved
loop-fault-preserved c =
    keeps (λ f. not (is_same_code f.code BadDatatype)) c.as_slice-fault-items.result.now c.loop-fault.fault-index c.fault-item.result
    c.loop-fault.kept.items c.keep_if.new.kept.items _ c.loop-fault-test.true c.fault-item.is c.loop-fault.invariant (ap not c.is_same_code-keep.ensures)
    c.in_ok-keep_if.ensures
