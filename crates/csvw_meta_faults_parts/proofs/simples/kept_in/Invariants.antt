-- The types so far that the profile has, as it uses them.
use Rattle.std.proofs.Common.{◌≡◌, filter, map, take}
use Rattle.csvw_meta_datatype.specs.Names.{is_in, with_zones}
use Rattle.csvw_meta_faults_parts.proofs.simples.kept_in.Given as goal

abbrev pub invariant-loop-simple : goal.invariant-loop-simple
invariant-loop-simple l = l.kept.items ≡ map (with_zones l.profile) (filter (is_in l.profile) (take l.simple-index l.simples))
