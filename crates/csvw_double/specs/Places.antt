-- The digits and the point of a number, by which numbers are compared.
use Rattle.std.specs.Prelude.{◌≡◌, ℕ, ◌≤◌, ◌⊎◌, ◌&&◌, ◌||◌, not, Bool, List, [], ◌∷◌, ◌++◌, length, if◌then◌else◌, pos, ◌-ℤ◌, Some}
use Rattle.std.specs.declared.cmp.Ordering.{Ordering}
use Rattle.std.specs.declared.cmp.Ordering.TheVariants.{Less, Equal, Greater}
use Rattle.std.specs.Str.Parse.{AllDigits}
use Rattle.std.specs.Ordering.{bool_cmp, int_cmp, nat_cmp, ordering_then}
use Rattle.csvw_double.specs.declared.order.Decimal.{Decimal}
use Rattle.csvw_double.specs.declared.order.Place.{Place}
use Rattle.csvw_double.specs.declared.order.Place.TheVariants.{Least, Number, Greatest}
use Rattle.csvw_double.specs.declared.order.Places.{Places}
use Rattle.csvw_double.specs.declared.plain.Plain.{Plain}
use Rattle.csvw_double.specs.Digits.{after_zeros, is_empty}
use Rattle.csvw_double.specs.Doubles.{digits_from_first, is_negative, parts_of, point_of}
use Rattle.csvw_double.specs.Order.{place_of}
use Rattle.csvw_double.specs.Values.{scale_of}

-- the digits of both pieces
abbrev pub all_of : Places → List ℕ
all_of p = p.whole.now ++ p.fraction.now

-- some digit isn't 0
abbrev pub has_value : List ℕ → Bool
has_value digits = not (is_empty (after_zeros digits))

-- the order of two fractions below 1, by their digits: after the last digit there are zeros
abbrev pub digits_cmp : List ℕ → List ℕ → Ordering
digits_cmp [] ds = bool_cmp (has_value []) (has_value ds)
digits_cmp (c ∷ cs) [] = bool_cmp (has_value (c ∷ cs)) (has_value [])
digits_cmp (c ∷ cs) (d ∷ ds) = ordering_then (nat_cmp c d) (digits_cmp cs ds)

-- the order of two sizes: 0 is the least
abbrev pub sizes_cmp : Decimal → Decimal → Ordering
sizes_cmp a b =
    if is_empty (all_of a.digits) || is_empty (all_of b.digits) then bool_cmp (not (is_empty (all_of a.digits))) (not (is_empty (all_of b.digits)))
    else ordering_then (int_cmp a.point b.point) (digits_cmp (all_of a.digits) (all_of b.digits))

-- the order of two numbers
abbrev pub decimals_cmp : Decimal → Decimal → Ordering
decimals_cmp a b =
    ordering_then (bool_cmp b.is_negative a.is_negative) (if a.is_negative then sizes_cmp b a else sizes_cmp a b)

-- the digits of a text from the first that isn't 0, its point, and whether it is below 0
pub record IsDecimalOf (text : List ℕ) (found : Decimal) : Type 0 where
  pub digits : all_of found.digits ≡ digits_from_first (parts_of text)
  pub point : found.point ≡ point_of (parts_of text)
  pub sign : found.is_negative ≡ (is_negative text && not (is_empty (digits_from_first (parts_of text))))

abbrev pub IsPlaceOf : List ℕ → Place → Type 0
IsPlaceOf text Least = place_of text ≡ Some Less
IsPlaceOf text (Number found) = (place_of text ≡ Some Equal) × IsDecimalOf text found
IsPlaceOf text Greatest = place_of text ≡ Some Greater

-- the text is digits, perhaps with a point behind some of them: those before the point, and those after it
pub record IsSplitOf (text : List ℕ) (found : Places) : Type 0 where
  pub some : 1 ≤ length found.whole.now
  pub whole : AllDigits 10 found.whole.now
  pub fraction : AllDigits 10 found.fraction.now
  pub is : ((text ≡ found.whole.now) × (found.fraction.now ≡ [])) ⊎ (text ≡ found.whole.now ++ (46 ∷ found.fraction.now))

-- a number in digits alone: its digits before and after the point, of which the first isn't 0, and whether it is below 0
pub record IsPlainOf (text : List ℕ) (found : Plain) : Type 0 where
  pub place : place_of text ≡ Some Equal
  pub whole : AllDigits 10 found.digits.whole.now
  pub fraction : AllDigits 10 found.digits.fraction.now
  pub first : after_zeros found.digits.whole.now ≡ found.digits.whole.now
  pub digits : digits_from_first (parts_of text) ≡ after_zeros (all_of found.digits)
  pub scale : scale_of text ≡ pos 0 -ℤ pos (length found.digits.fraction.now)
  pub sign : found.is_negative ≡ (is_negative text && not (is_empty (digits_from_first (parts_of text))))

-- the order of two sizes: that of the numbers of digits before the point, and then of the digits
abbrev pub plain_sizes_cmp : Places → Places → Ordering
plain_sizes_cmp a b = ordering_then (nat_cmp (length a.whole.now) (length b.whole.now)) (digits_cmp (all_of a) (all_of b))

-- the order of two numbers in digits alone
abbrev pub plain_cmp : Plain → Plain → Ordering
plain_cmp a b =
    ordering_then (bool_cmp b.is_negative a.is_negative) (if a.is_negative then plain_sizes_cmp b.digits a.digits else plain_sizes_cmp a.digits b.digits)
