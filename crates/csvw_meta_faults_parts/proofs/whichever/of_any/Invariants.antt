-- The faults so far that every datatype has.
use Rattle.std.proofs.Common.{◌≡◌, filter, not, take}
use Rattle.csvw_meta_core.specs.declared.fault.MetaCode.TheVariants.{BadDatatype}
use Rattle.csvw_meta_datatype.specs.Whichever.{is_same_code}
use Rattle.csvw_meta_faults_parts.proofs.whichever.of_any.Given as goal

abbrev pub invariant-loop-fault : goal.invariant-loop-fault
invariant-loop-fault l = l.kept.items ≡ filter (λ f. not (is_same_code f.code BadDatatype)) (take l.fault-index l.fault-items)
