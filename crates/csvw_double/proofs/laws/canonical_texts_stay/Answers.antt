-- A canonical text is a special one, or 0, or that of a number whose digits are trimmed.
use Rattle.std.proofs.Common.{◌≡◌, ◌∙◌, ℕ, ◌<◌, ◌&&◌, true, false, Bool, List, [], ◌∷◌, ◌++◌, length, nat_lt, Option, Some, None, codes, unwrap_or, arith}
use Rattle.std.proofs.Common.{ap, refl, sym, subst, if◌then◌else◌, pos, ◌-ℤ◌, ◌^◌}
use Rattle.std.specs.Float.Numeral.{scan_numeral}
use Rattle.std.specs.Str.{bytes_eq}
use Rattle.std.specs.Str.Parse.{digits_value}
use Rattle.csvw_double.specs.Doubles.{after_sign, digits_of, is_negative, is_number, is_short, is_within, parts_of, point_of}
use Rattle.csvw_double.specs.Forms.{double_form, number_form, number_of, or_else, special_form}
use Rattle.csvw_double.proofs.FormLemmas.{joined_digits}
use Rattle.csvw_double.proofs.DigitLemmas.{scanned_fraction, scanned_whole, trimmed}
use Rattle.csvw_double.proofs.CanonicalLemmas.{number_stays}
use Rattle.csvw_double.proofs.StayLemmas.{IsTrimmed}
use Rattle.csvw_double.proofs.laws.canonical_texts_stay.Goals as goal

inside : (x y : List ℕ) → Some x ≡ Some y → x ≡ y
inside x y e = ap (λ o. unwrap_or o []) e

special_of : (x form : List ℕ) → special_form x ≡ Some x → Some x ≡ Some form → special_form form ≡ Some form
special_of x form is e = subst (λ y. special_form y ≡ Some y) (inside x form e) is

special_stays : (text form : List ℕ) → special_form text ≡ Some form → special_form form ≡ Some form
special_stays text form is = go (bytes_eq text (codes "INF")) (bytes_eq text (codes "+INF")) (bytes_eq text (codes "-INF")) (bytes_eq text (codes "NaN")) is
  where
    go : (a b c d : Bool) → (if a then Some (codes "INF") else (if b then Some (codes "INF") else (if c then Some (codes "-INF") else (if d then Some
        (codes "NaN") else None)))) ≡ Some form
        → special_form form ≡ Some form
    go true b c d e = special_of (codes "INF") form refl e
    go false true c d e = special_of (codes "INF") form refl e
    go false false true d e = special_of (codes "-INF") form refl e
    go false false false true e = special_of (codes "NaN") form refl e
    go false false false false e = cc

-- a text that is no special one, and its own canonical text
abbrev Stays : List ℕ → Type 0
Stays form = (special_form form ≡ None) × (number_of form ≡ Some form)

zero_stays : Stays (48 ∷ [])
unfolding scan_numeral
zero_stays = (refl, refl)

second : (a b : Bool) → (a && b) ≡ true → b ≡ true
second true b e = e
second false b e = cc

digits_stay : (text ds : List ℕ) → ds ≡ digits_of (parts_of text) → is_short text ≡ true → Stays (number_form (is_negative text) ds (point_of (parts_of text)))
digits_stay text [] is short = zero_stays
digits_stay text (d ∷ ds) is short =
    let parts = parts_of text in
    let are = joined_digits parts.whole parts.fraction (scanned_whole (after_sign text)) (scanned_fraction (after_sign text)) in
    let some : 0 < length (digits_of parts) = subst (λ xs. 0 < length xs) is (omega arith) in
    number_stays (is_negative text) (d ∷ ds) (point_of parts) (subst IsTrimmed (sym is) (trimmed (parts.whole ++ parts.fraction) are some))
    (second (nat_lt (digits_value 10 parts.exponent) (10 ^ 18)) (is_within (point_of parts -ℤ pos 1)) short)

number_of_stays : (text form : List ℕ) → number_of text ≡ Some form → Stays form
number_of_stays text form is = go (is_number text && is_short text) refl is
  where
    go : (b : Bool) → (is_number text && is_short text) ≡ b
        → (if b then Some (number_form (is_negative text) (digits_of (parts_of text)) (point_of (parts_of text))) else None) ≡ Some form → Stays form
    go true both e = subst Stays (inside _ form e) (digits_stay text (digits_of (parts_of text)) refl (second (is_number text) (is_short text) both))
    go false both e = cc

or_special : (text form : List ℕ) → (o : Option (List ℕ)) → special_form text ≡ o → or_else o (number_of text) ≡ Some form
    → or_else (special_form form) (number_of form) ≡ Some form
or_special text form (Some x) is e = ap (λ o. or_else o (number_of form)) (special_stays text form (is ∙ e))
or_special text form None is e = let stays = number_of_stays text form e in ap (λ o. or_else o (number_of form)) stays.0 ∙ stays.1

pub returns : goal.returns
unfolding double_form
returns c text form is = or_special text form (special_form text) refl is
