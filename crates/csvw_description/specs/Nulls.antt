-- The set of the texts that are null: `IsSetOf` (Metadata Vocabulary for Tabular Data, section 5.7, `null`).
use Rattle.std.specs.Prelude.{◌≡◌, ℕ, List, String, bytes_eq}
use Rattle.std.specs.List.{list_any}
use Rattle.std.specs.BTreeSet.{BTreeSet, contains_text}

-- the set has the texts of the list, and no other text
abbrev pub IsSetOf : {Y : Type 0} → List (List ℕ) → BTreeSet (String Y) → Type 0
IsSetOf texts set = (text : List ℕ) → contains_text set text ≡ list_any (λ n. bytes_eq n text) texts
