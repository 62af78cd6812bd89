-- A number's canonical text is a number, no other double, and its own canonical text.
use Rattle.std.proofs.Common.{◌≡◌, ◌∙◌, ℕ, zero, suc, ◌+◌, ◌-◌, ◌^◌, ◌<◌, ◌==◌, true, false, Bool, List, [], ◌∷◌, ◌++◌, length, take, drop, replicate}
use Rattle.std.proofs.Common.{nat_lt, Some, None}
use Rattle.std.proofs.Common.{arith, ap, refl, sym, subst, if◌then◌else◌, ℤ, pos, negsuc, ◌-ℤ◌}
use Rattle.std.specs.Float.Numeral.{Parts, has_digits, scan_numeral}
use Rattle.std.specs.Str.Parse.{AllDigits, digits_value}
use Rattle.std.proofs.lemmas.Bool.{lt-ltb, ltb-true}
use Rattle.std.proofs.lemmas.Float.Parse.{scan_numeral-text_of}
use Rattle.std.proofs.lemmas.Grind.{common_steps}
use Rattle.std.proofs.lemmas.Int.{ints}
use Rattle.std.proofs.lemmas.Str.Parse.{digit_from_value}
use Rattle.csvw_double.specs.Doubles.{after_sign, digits_of, is_negative, is_within, parts_of, point_of}
use Rattle.csvw_double.specs.Forms.{is_plain, number_form, number_of, plain_form, scientific_form, sign_form, special_form, unsigned_form}
use Rattle.csvw_double.proofs.StayLemmas.{IsRead, IsTrimmed, read_before, read_below, read_exponent, read_inside}

by_power : (ds : List ℕ) (z point : ℤ) → IsTrimmed ds → is_within z ≡ true → z ≡ point -ℤ pos 1 → IsRead (scientific_form ds z) ds point
by_power ds (pos n) point t near is = read_exponent ds false n (pos n) point t (grind (arith, ints, near)) refl is
by_power ds (negsuc n) point t near is = read_exponent ds true (suc n) (negsuc n) point t (grind (arith, ints, near)) refl is

by_point : (ds : List ℕ) (point : ℤ) → IsTrimmed ds → IsRead (plain_form ds point) ds point
by_point ds (pos zero) t = read_below 0 ds t
by_point ds (negsuc n) t = read_below (suc n) ds t
by_point ds (pos (suc n)) t = go (nat_lt (suc n) (length ds)) refl
  where
    go : (b : Bool) → nat_lt (suc n) (length ds) ≡ b
        → IsRead (if b then take (suc n) ds ++ (46 ∷ drop (suc n) ds) else ds ++ replicate (suc n - length ds) 48) ds (pos (suc n))
    go true is = read_inside (suc n) ds t (omega arith) (ltb-true (suc n) (length ds) is)
    go false is =
        let e : length ds + (suc n - length ds) ≡ suc n = grind (arith, common_steps, is) in
        subst (λ m. IsRead (ds ++ replicate (suc n - length ds) 48) ds (pos m)) e (read_before (suc n - length ds) ds t)

-- the text of a number above 0 is read as the number
unsigned : (ds : List ℕ) (point : ℤ) → IsTrimmed ds → is_within (point -ℤ pos 1) ≡ true → IsRead (unsigned_form ds point) ds point
unsigned ds point t near = go (is_plain point)
  where
    go : (b : Bool) → IsRead (if b then plain_form ds point else scientific_form ds (point -ℤ pos 1)) ds point
    go true = by_point ds point t
    go false = by_power ds (point -ℤ pos 1) point t near refl

-- a text begins with a digit
pub record IsHeaded (text : List ℕ) : Type 0 where
  sign : after_sign text ≡ text
  plus : is_negative text ≡ false
  special : special_form text ≡ None
  negative : special_form (45 ∷ text) ≡ None

pub headed : (whole rest : List ℕ) → AllDigits 10 whole → 0 < length whole → IsHeaded (whole ++ rest)
headed [] rest are some = absurd (omega (arith, some))
headed (c ∷ cs) rest are some =
    let range = digit_from_value c are.0 in
    record {
      sign = grind (arith, common_steps);
      plus = grind (arith, common_steps);
      special = grind (arith, common_steps);
      negative = grind (arith, common_steps);
    }

-- what a sign changes of a text
pub record IsSigned (negative : Bool) (text u : List ℕ) : Type 0 where
  pub rest : after_sign text ≡ u
  pub sign : is_negative text ≡ negative
  pub special : special_form text ≡ None

pub signed : (negative : Bool) (u : List ℕ) → IsHeaded u → IsSigned negative (sign_form negative ++ u) u
signed true u h = record { rest = refl; sign = refl; special = h.negative }
signed false u h = record { rest = h.sign; sign = h.plus; special = h.special }

same : (n : ℕ) → (n == n) ≡ true
same n = grind (arith, common_steps)

-- a text is read as this number
pub record IsBack (text ds : List ℕ) (negative : Bool) (point : ℤ) : Type 0 where
  pub sign : is_negative text ≡ negative
  pub digits : digits_of (parts_of text) ≡ ds
  pub point_is : point_of (parts_of text) ≡ point

back : (text u ds : List ℕ) (p : Parts) (negative : Bool) (point : ℤ) → after_sign text ≡ u → scan_numeral u ≡ p → is_negative text ≡ negative
    → digits_of p ≡ ds
    → point_of p ≡ point → IsBack text ds negative point
back text u ds p negative point rest scanned sign digits places = record {
  sign = sign;
  digits = ap digits_of (ap scan_numeral rest ∙ scanned) ∙ digits;
  point_is = ap point_of (ap scan_numeral rest ∙ scanned) ∙ places;
}

pub chosen : (text u ds : List ℕ) (p : Parts) (negative : Bool) (point : ℤ) → after_sign text ≡ u → scan_numeral u ≡ p → is_negative text ≡ negative
    → p.len ≡ length u → has_digits p ≡ true → digits_value 10 p.exponent < 10 ^ 18 → digits_of p ≡ ds → point_of p ≡ point
    → is_within (point -ℤ pos 1) ≡ true → number_of text ≡ Some (number_form negative ds point)
chosen text u ds p negative point rest scanned sign long has small digits places near =
    rw (rest, scanned, sign, long, same (length u), has, lt-ltb (digits_value 10 p.exponent) (10 ^ 18) small, digits, places, near) refl

pub form_is : (negative : Bool) (ds : List ℕ) (point : ℤ) → 0 < length ds → number_form negative ds point ≡ sign_form negative ++ unsigned_form ds point
form_is negative [] point some = absurd (omega (arith, some))
form_is negative (d ∷ ds) point some = refl

-- the canonical text of a number that isn't 0 is no special text, and its own canonical text
pub number_stays : (negative : Bool) (ds : List ℕ) (point : ℤ) → IsTrimmed ds → is_within (point -ℤ pos 1) ≡ true
    → (special_form (number_form negative ds point) ≡ None) × (number_of (number_form negative ds point) ≡ Some (number_form negative ds point))
number_stays negative ds point t near =
    let u = unsigned_form ds point in
    let r = unsigned ds point t near in
    let form = form_is negative ds point t.some in
    let head : IsHeaded u = subst IsHeaded (sym r.is) (headed r.parts.whole _ r.formed.whole_digits r.some) in
    let s = signed negative u head in (
      ap special_form form ∙ s.special,
      ap number_of form ∙ chosen (sign_form negative ++ u) u ds r.parts negative point s.rest (ap scan_numeral r.is
          ∙ scan_numeral-text_of r.parts r.formed) s.sign
          (r.formed.len_is ∙ ap length (sym r.is)) r.has r.exponent r.digits r.point_is near,
    )

-- the canonical text of a number that isn't 0 is read as the number
pub reads_back : (negative : Bool) (ds : List ℕ) (point : ℤ) → IsTrimmed ds → is_within (point -ℤ pos 1) ≡ true
    → IsBack (number_form negative ds point) ds negative point
reads_back negative ds point t near =
    let u = unsigned_form ds point in
    let r = unsigned ds point t near in
    let head : IsHeaded u = subst IsHeaded (sym r.is) (headed r.parts.whole _ r.formed.whole_digits r.some) in
    let s = signed negative u head in
    subst (λ text. IsBack text ds negative point) (sym (form_is negative ds point t.some))
    (back (sign_form negative ++ u) u ds r.parts negative point s.rest (ap scan_numeral r.is
    ∙ scan_numeral-text_of r.parts r.formed) s.sign r.digits r.point_is)
