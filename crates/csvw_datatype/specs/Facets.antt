-- The values that keep each facet, in the standards' words (Model for Tabular Data, sections 4.6.1 and 4.6.2; Metadata Vocabulary
-- for Tabular Data, section 5.11.2; XML Schema Part 2, section 4.3).
use Rattle.std.specs.Prelude.{◌≢◌, ◌↔◌, ◌⊎◌, ℕ, ◌<◌, IsTrue, Option, Some, None, ◌<ℤ◌, ◌≤ℤ◌}
use Rattle.std.specs.Ordering.{is_ge, is_gt, is_some_and}
use Rattle.csvw_datatype.specs.declared.simple.Simple.{Simple}
use Rattle.csvw_datatype.specs.declared.value.Value.{Value}
use Rattle.csvw_datatype.specs.declared.value.Value.TheVariants.{Text, Number, Day, Moment}
use Rattle.csvw_datatype.specs.declared.datatype.Facets.{Facets}
use Rattle.csvw_datatype.specs.declared.facets.Broken.{Broken}
use Rattle.csvw_datatype.specs.Breaks.{text_length}
use Rattle.csvw_datatype.specs.Order.{kept_cmp}

-- the facet is there, and this holds of it
abbrev pub IsThereAnd : {A : Type 0} → Option A → (A → Type 0) → Type 0
IsThereAnd None P = ⊥
IsThereAnd (Some x) P = P x

-- this holds of the length of a value of a type: its number of octets, or of characters; a number, a truth, a day and a moment have none
abbrev pub HasLength : Simple → Value → (ℕ → Type 0) → Type 0
HasLength s (Text text) P = P (text_length s text)
HasLength s _ P = ⊥

-- A number, a day or a moment is less than another. A value that is kept as a text is not greater than or equal to another: a value without an order, as
-- NaN, is outside of each range (XML Schema Part 2, sections 3.3.5 and 4.3.7).
abbrev pub IsLess : Simple → Value → Value → Type 0
IsLess s (Number a) (Number b) = a <ℤ b
IsLess s (Day a) (Day b) = a <ℤ b
IsLess s (Moment a) (Moment b) = a <ℤ b
IsLess s (Day a) (Text b) = IsTrue (is_some_and is_ge (kept_cmp s (Day a) (Text b))) → ⊥
IsLess s (Text a) (Day b) = IsTrue (is_some_and is_ge (kept_cmp s (Text a) (Day b))) → ⊥
IsLess s (Moment a) (Text b) = IsTrue (is_some_and is_ge (kept_cmp s (Moment a) (Text b))) → ⊥
IsLess s (Text a) (Moment b) = IsTrue (is_some_and is_ge (kept_cmp s (Text a) (Moment b))) → ⊥
IsLess s (Text a) (Text b) = IsTrue (is_some_and is_ge (kept_cmp s (Text a) (Text b))) → ⊥
IsLess s _ _ = ⊥

-- a number, a day or a moment is less than another or equal to it; a value that is kept as a text isn't greater than another
abbrev pub IsAtMost : Simple → Value → Value → Type 0
IsAtMost s (Number a) (Number b) = a ≤ℤ b
IsAtMost s (Day a) (Day b) = a ≤ℤ b
IsAtMost s (Moment a) (Moment b) = a ≤ℤ b
IsAtMost s (Day a) (Text b) = IsTrue (is_some_and is_gt (kept_cmp s (Day a) (Text b))) → ⊥
IsAtMost s (Text a) (Day b) = IsTrue (is_some_and is_gt (kept_cmp s (Text a) (Day b))) → ⊥
IsAtMost s (Moment a) (Text b) = IsTrue (is_some_and is_gt (kept_cmp s (Moment a) (Text b))) → ⊥
IsAtMost s (Text a) (Moment b) = IsTrue (is_some_and is_gt (kept_cmp s (Text a) (Moment b))) → ⊥
IsAtMost s (Text a) (Text b) = IsTrue (is_some_and is_gt (kept_cmp s (Text a) (Text b))) → ⊥
IsAtMost s _ _ = ⊥

-- length: the exact length of the value
abbrev pub HasOtherLength : Simple → Value → Facets → Type 0
HasOtherLength s v f = IsThereAnd f.length (λ k. HasLength s v (λ n. n ≢ k))

-- minLength: the minimum length of the value
abbrev pub IsShorter : Simple → Value → Facets → Type 0
IsShorter s v f = IsThereAnd f.min_length (λ k. HasLength s v (λ n. n < k))

-- maxLength: the maximum length of the value
abbrev pub IsLonger : Simple → Value → Facets → Type 0
IsLonger s v f = IsThereAnd f.max_length (λ k. HasLength s v (λ n. k < n))

-- minimum and minInclusive: the minimum valid value; minExclusive: the minimum value, itself not valid
abbrev pub IsBelowMinimum : Simple → Value → Facets → Type 0
IsBelowMinimum s v f =
    IsThereAnd f.minimum (λ b. IsLess s v b) ⊎ (IsThereAnd f.min_inclusive (λ b. IsLess s v b) ⊎ IsThereAnd f.min_exclusive (λ b. IsAtMost s v b))

-- maximum and maxInclusive: the maximum valid value; maxExclusive: the maximum value, itself not valid
abbrev pub IsAboveMaximum : Simple → Value → Facets → Type 0
IsAboveMaximum s v f =
    IsThereAnd f.maximum (λ b. IsLess s b v) ⊎ (IsThereAnd f.max_inclusive (λ b. IsLess s b v) ⊎ IsThereAnd f.max_exclusive (λ b. IsAtMost s b v))

-- each code is set exactly if the value breaks one of its facets
pub record SaysWhatBreaks (s : Simple) (v : Value) (f : Facets) (broken : Broken) : Type 0 where
  pub length : IsTrue broken.wrong_length ↔ HasOtherLength s v f
  pub min_length : IsTrue broken.too_short ↔ IsShorter s v f
  pub max_length : IsTrue broken.too_long ↔ IsLonger s v f
  pub minimum : IsTrue broken.below_minimum ↔ IsBelowMinimum s v f
  pub maximum : IsTrue broken.above_maximum ↔ IsAboveMaximum s v f
