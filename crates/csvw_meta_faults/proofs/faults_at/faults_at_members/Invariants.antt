-- What is found so far, and then what is left, is the whole.
use Rattle.std.proofs.Common.{◌≡◌, map, take}
use Rattle.csvw_meta_core.specs.Pointer.{below, item_at, text_of}
use Rattle.csvw_meta_faults.proofs.faults_at.faults_at_members.Given as goal

abbrev pub invariant-loop-index : goal.invariant-loop-index
invariant-loop-index l =
    l.faults.items ≡ map (λ i. record { code = l.code; pointer = below (item_at (text_of l.part.at) i) l.name }) (take l.index-index l.indices)
