-- The titles that are read already, and those that are read next.
use Rattle.std.proofs.Common.{◌≡◌, ℕ, List, ◌++◌, Option, subst}
use Rattle.serde_json.specs.Data.{Data, Members, member}
use Rattle.csvw_meta_core.specs.declared.fault.Refusal.{Refusal}
use Rattle.csvw_meta_core.specs.Read.{Read}
use Rattle.csvw_meta_core.specs.Reads.{Fails}
use Rattle.csvw_meta.specs.Titles.{Sorted, sorted, of_key}
use Rattle.csvw_meta.proofs.ReadLemmas.{fails_first}

abbrev pub with_fronts : List (List ℕ) → List (List ℕ) → Read Sorted → Read Sorted
with_fronts first others r =
    record { faults = r.faults; value = record { first = first ++ r.value.first; others = others ++ r.value.others } }

pub ends : (language : Option (List ℕ)) (at k : List ℕ) (d : Data) (ms : Members) (first others : List (List ℕ)) (total : Read Sorted)
    → with_fronts first others (sorted language at (member k d ms)) ≡ total → (e : Refusal) → Fails e (of_key at k d).faults → Fails e total.faults
ends language at k d ms first others total so_far e h =
    subst (λ (r : Read Sorted). Fails e r.faults) so_far (fails_first e _ (sorted language at ms).faults h)
