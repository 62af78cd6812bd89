-- The faults of the first list so far that are in each of the others.
use Rattle.std.proofs.Common.{◌≡◌, filter, take}
use Rattle.std.specs.List.{list_all}
use Rattle.csvw_meta_datatype.specs.Whichever.{is_among}
use Rattle.csvw_meta_faults_parts.proofs.whichever.common.Given as goal

abbrev pub invariant-loop-fault : goal.invariant-loop-fault
invariant-loop-fault l = l.kept.items ≡ filter (λ f. list_all (λ other. is_among other f) l.others) (take l.fault-index l.fault-items)
