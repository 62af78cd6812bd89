-- Arrays (Metadata Vocabulary for Tabular Data, section 5.1.1) with a limited number of items. If there are too many, each is still
-- checked.
use Rattle.std.specs.Prelude.{ℕ, ◌+◌, List, [], ◌∷◌, nat_lt, if◌then◌else◌}
use Rattle.serde_json.specs.Data.{Data, null, boolean, number, string, array, object, Items, no_items, item}
use Rattle.csvw_meta_core.specs.declared.fault.MetaCode.TheVariants.{BadProperty, TooMany}
use Rattle.csvw_meta_core.specs.declared.fault.MetaFault.{MetaFault}
use Rattle.csvw_meta_core.specs.Read.{Read, wrong, each_numbered}
use Rattle.csvw_meta_core.specs.Rules.{also}

abbrev pub items_len : Items → ℕ
items_len no_items = 0
items_len (item d ds) = 1 + items_len ds

-- at least this many items, and at most that many
abbrev pub count_faults : ℕ → ℕ → List ℕ → Items → List MetaFault
count_faults least most at ds =
    if nat_lt (items_len ds) least then record { code = BadProperty; pointer = at } ∷ []
    else (if nat_lt most (items_len ds) then record { code = TooMany; pointer = at } ∷ [] else [])

abbrev pub some_items : {A : Type 0} → ℕ → ℕ → (ℕ → List ℕ → Data → Read A) → List ℕ → Items → Read (List A)
some_items least most reads at ds = also (each_numbered reads at 0 ds) (λ faults xs. count_faults least most at ds)

-- an array with this many items
abbrev pub several : {A : Type 0} → ℕ → ℕ → (ℕ → List ℕ → Data → Read A) → List ℕ → Data → Read (List A)
several least most reads at (array ds) = some_items least most reads at ds
several least most reads at null = wrong at null []
several least most reads at (boolean b) = wrong at (boolean b) []
several least most reads at (number n) = wrong at (number n) []
several least most reads at (string s) = wrong at (string s) []
several least most reads at (object ms) = wrong at (object ms) []
