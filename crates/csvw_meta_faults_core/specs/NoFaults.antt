-- Warnings on an object whose common properties are allowed are no faults (Metadata Vocabulary for Tabular Data, sections 4.1 and 5.8).
use Rattle.std.specs.Prelude.{◌≡◌, ℕ, List, [], ◌++◌, Bool, true, false, if◌then◌else◌}
use Rattle.std.proofs.Common.{refl, ap, ◌∙◌}
use Rattle.serde_json.specs.Data.{Data, null, boolean, number, string, array, object, Members, no_members, member}
use Rattle.csvw_fault.specs.declared.fault.Place.{Place}
use Rattle.csvw_meta_core.specs.declared.fault.MetaFault.{MetaFault}
use Rattle.csvw_meta_core.specs.declared.others.CommonProperty.TheVariants.{Allowed}
use Rattle.csvw_meta_core.specs.Others.{has_colon, is_among, judged, other, others_in, others}
use Rattle.csvw_meta_core.specs.Pointer.{below}
use Rattle.csvw_meta_core.specs.Read.{Read, fine}
use Rattle.csvw_meta_notes.specs.Unlisted.{all_warnings}

pub none_in_test : {A : Type 0} (b : Bool) (r s : Read A) → r.faults ≡ [] → s.faults ≡ [] → (if b then r else s).faults ≡ []
none_in_test true r s h k = h
none_in_test false r s h k = k

pub none_in_both : (xs ys : List MetaFault) → xs ≡ [] → ys ≡ [] → xs ++ ys ≡ []
none_in_both xs ys h k = ap (λ zs. zs ++ ys) h ∙ k

other_none : (names : List (List ℕ)) (at name : List ℕ) (d : Data) → (other names Allowed at name d).faults ≡ []
other_none names at name d =
    none_in_test (is_among names name) (fine false) (if has_colon name then judged Allowed (below at name) d else fine true) refl
    (none_in_test (has_colon name) (judged Allowed (below at name) d) (fine true) refl refl)

others_in_none : (names : List (List ℕ)) (place : Place) (at : List ℕ) (ms : Members) → (others_in names Allowed place at ms).faults ≡ []
others_in_none names place at no_members = refl
others_in_none names place at (member name d ms) =
    none_in_both (other names Allowed at name d).faults (others_in names Allowed place at ms).faults (other_none names at name d)
    (others_in_none names place at ms)

pub others_none : (names : List (List ℕ)) (place : Place) (at : List ℕ) (d : Data) → (others names Allowed place at d).faults ≡ []
others_none names place at (object ms) = others_in_none names place at ms
others_none names place at null = refl
others_none names place at (boolean b) = refl
others_none names place at (number n) = refl
others_none names place at (string s) = refl
others_none names place at (array ds) = refl

pub all_warnings_none : (names : List (List ℕ)) (place : Place) (at : List ℕ) (d : Data) → (all_warnings names place at d).faults ≡ []
unfolding all_warnings
all_warnings_none names place at d = none_in_both (others names Allowed place at d).faults [] (others_none names place at d) refl
