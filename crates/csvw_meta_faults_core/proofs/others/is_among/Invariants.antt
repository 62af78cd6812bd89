-- The names so far are not the one that is looked for.
use Rattle.std.proofs.Common.{◌≡◌, take, false, bytes_eq}
use Rattle.std.specs.List.{list_any}
use Rattle.csvw_meta_faults_core.proofs.others.is_among.Given as goal

abbrev pub invariant-loop-listed : goal.invariant-loop-listed
invariant-loop-listed l = list_any (λ n. bytes_eq n.now l.name) (take l.listed-index l.names) ≡ false
