-- The properties of an object that the vocabulary doesn't list for it: `others` (Metadata Vocabulary for Tabular Data, section
-- 4.1). One with a colon in its name is a common property (section 5.8). Any other is ignored with a warning.
use Rattle.std.specs.Prelude.{ℕ, ◌==◌, List, [], ◌∷◌, ◌++◌, Bool, true, false, bytes_eq, map, if◌then◌else◌}
use Rattle.std.specs.Borrow.{Bor}
use Rattle.std.specs.List.{list_any}
use Rattle.serde_json.specs.Data.{Data, null, boolean, number, string, array, object, Members, no_members, member}
use Rattle.csvw_fault.specs.declared.fault.Place.{Place}
use Rattle.csvw_fault.specs.declared.fault.Fault.{Fault}
use Rattle.csvw_fault.specs.declared.fault.Code.TheVariants.{UnknownProperty}
use Rattle.csvw_fault.specs.declared.fault.Kind.TheVariants.{Warning}
use Rattle.csvw_meta_core.specs.declared.others.CommonProperty.{CommonProperty}
use Rattle.csvw_meta_core.specs.declared.others.CommonProperty.TheVariants.{Allowed, Refused}
use Rattle.csvw_meta_core.specs.Pointer.{below}
use Rattle.csvw_meta_core.specs.Read.{Read, fine, wrong, both}

-- the texts that are borrowed
abbrev pub names_of : List (Bor (List ℕ)) → List (List ℕ)
names_of names = map (λ n. n.now) names

abbrev pub has_colon : List ℕ → Bool
has_colon name = list_any (λ b. b == 58) name

abbrev pub is_among : List (List ℕ) → List ℕ → Bool
is_among names name = list_any (λ n. bytes_eq n name) names

abbrev pub warning_at : Place → Fault
warning_at place = record { place = place; code = UnknownProperty; kind = Warning }

-- A common property is never ignored. If it is not allowed, it is a value of a wrong kind.
abbrev pub judged : CommonProperty → List ℕ → Data → Read Bool
judged Allowed at d = fine false
judged Refused at d = wrong at d false

-- whether a property of this value is ignored
abbrev pub other : List (List ℕ) → CommonProperty → List ℕ → List ℕ → Data → Read Bool
other names common at name d =
    if is_among names name then fine false
    else (if has_colon name then judged common (below at name) d else fine true)

-- a warning for each property that is ignored
abbrev pub others_in : List (List ℕ) → CommonProperty → Place → List ℕ → Members → Read (List Fault)
others_in names common place at no_members = fine []
others_in names common place at (member k d ms) =
    both (λ ignored rest. (if ignored then warning_at place ∷ [] else []) ++ rest) (other names common at k d) (others_in names common place at ms)

abbrev pub others : List (List ℕ) → CommonProperty → Place → List ℕ → Data → Read (List Fault)
others names common place at (object ms) = others_in names common place at ms
others names common place at null = fine []
others names common place at (boolean b) = fine []
others names common place at (number n) = fine []
others names common place at (string s) = fine []
others names common place at (array ds) = fine []
