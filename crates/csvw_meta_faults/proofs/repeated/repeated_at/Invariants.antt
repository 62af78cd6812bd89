-- What is found so far, and then what is left, is the whole. The set has the texts before.
use Rattle.std.proofs.Common.{◌≡◌, ◌++◌, ℕ, List, [], bytes_eq, false, drop, map, get_or}
use Rattle.std.specs.BTreeSet.{contains_text}
use Rattle.std.specs.List.{list_any}
use Rattle.csvw_meta_core.specs.declared.fault.MetaFault.{MetaFault}
use Rattle.csvw_meta.specs.Repeated.{repeated}
use Rattle.csvw_meta_faults.proofs.repeated.repeated_at.Given as goal

abbrev pub invariant-loop-i : goal.invariant-loop-i
invariant-loop-i l =
    ((fault : ℕ → MetaFault) → map fault l.found.items
    ++ repeated (λ i. get_or l.known i false) fault (map (λ t. t.now) l.before.items) l.i (drop l.i l.texts)
    ≡ repeated (λ i. get_or l.known i false) fault [] 0 l.texts)
    × ((p : List ℕ) → contains_text l.earlier p ≡ list_any (λ u. bytes_eq u p) (map (λ t. t.now) l.before.items))
