-- The facets that a value breaks (Metadata Vocabulary for Tabular Data, section 5.11.2; Model for Tabular Data, sections 4.6.1
-- and 4.6.2).
use Rattle.std.specs.Prelude.{ℕ, ◌==◌, ◌||◌, nat_lt, not, Bool, false, Option, Some, None, is_some, List, length}
use Rattle.std.specs.Str.{chars}
use lib.Signed.{lt_z}
use Rattle.std.specs.Ordering.{is_ge, is_gt, is_some_and}
use Rattle.csvw_binary.specs.Binaries.{octet_count}
use Rattle.csvw_datatype.specs.declared.simple.Simple.{Simple}
use Rattle.csvw_datatype.specs.declared.simple.Simple.TheVariants as simples
use Rattle.csvw_datatype.specs.declared.simple.TextType.TheVariants as types
use Rattle.csvw_datatype.specs.declared.value.Value.{Value}
use Rattle.csvw_datatype.specs.declared.value.Value.TheVariants.{Text, Truth, Number, Day, Moment}
use Rattle.csvw_datatype.specs.declared.datatype.Facets.{Facets}
use Rattle.csvw_datatype.specs.declared.facets.Broken.{Broken}
use Rattle.csvw_datatype.specs.Order.{kept_cmp}

abbrev pub no_facets : Facets
no_facets = record {
  length = None;
  min_length = None;
  max_length = None;
  minimum = None;
  min_inclusive = None;
  min_exclusive = None;
  maximum = None;
  max_inclusive = None;
  max_exclusive = None;
}

-- A number, a day or a moment is below another. Of values that are kept as texts the first is neither the second nor above it. So a value without an
-- order, as NaN, is outside of each range (XML Schema Part 2, sections 3.3.5 and 4.3.7).
abbrev pub is_below : Simple → Value → Value → Bool
is_below s (Number a) (Number b) = lt_z a b
is_below s (Day a) (Day b) = lt_z a b
is_below s (Moment a) (Moment b) = lt_z a b
is_below s (Day a) (Text b) = not (is_some_and is_ge (kept_cmp s (Day a) (Text b)))
is_below s (Text a) (Day b) = not (is_some_and is_ge (kept_cmp s (Text a) (Day b)))
is_below s (Moment a) (Text b) = not (is_some_and is_ge (kept_cmp s (Moment a) (Text b)))
is_below s (Text a) (Moment b) = not (is_some_and is_ge (kept_cmp s (Text a) (Moment b)))
is_below s (Text a) (Text b) = not (is_some_and is_ge (kept_cmp s (Text a) (Text b)))
is_below s _ _ = false

-- a number, a day or a moment is another, or below it; of values that are kept as texts the first isn't above the second
abbrev pub is_up_to : Simple → Value → Value → Bool
is_up_to s (Number a) (Number b) = not (lt_z b a)
is_up_to s (Day a) (Day b) = not (lt_z b a)
is_up_to s (Moment a) (Moment b) = not (lt_z b a)
is_up_to s (Day a) (Text b) = not (is_some_and is_gt (kept_cmp s (Day a) (Text b)))
is_up_to s (Text a) (Day b) = not (is_some_and is_gt (kept_cmp s (Text a) (Day b)))
is_up_to s (Moment a) (Text b) = not (is_some_and is_gt (kept_cmp s (Moment a) (Text b)))
is_up_to s (Text a) (Moment b) = not (is_some_and is_gt (kept_cmp s (Text a) (Moment b)))
is_up_to s (Text a) (Text b) = not (is_some_and is_gt (kept_cmp s (Text a) (Text b)))
is_up_to s _ _ = false

-- how many octets the text of a type of octets writes, or how many characters any other text has
abbrev pub text_length : Simple → List ℕ → ℕ
text_length (simples.Other (types.Binary form)) text = octet_count form text
text_length _ text = length (chars text)

-- the length of a text
abbrev pub length_of : Simple → Value → Option ℕ
length_of s (Text text) = Some (text_length s text)
length_of s _ = None

-- both are there, and the test holds of them
abbrev pub fails : {A B : Type 0} → (A → B → Bool) → Option A → Option B → Bool
fails test (Some a) (Some b) = test a b
fails test _ _ = false

-- both are there, and the second is below the first
abbrev pub is_over : Simple → Option Value → Option Value → Bool
is_over s a b = fails (λ a b. is_below s b a) a b

-- both are there, and the second is the first or below it
abbrev pub is_not_under : Simple → Option Value → Option Value → Bool
is_not_under s a b = fails (λ a b. is_up_to s b a) a b

-- a facet asks for a length
abbrev pub has_lengths : Facets → Bool
has_lengths f = is_some f.length || is_some f.min_length || is_some f.max_length

-- a facet is a bound
abbrev pub has_bounds : Facets → Bool
has_bounds f =
    (is_some f.minimum || is_some f.min_inclusive || is_some f.min_exclusive)
    || (is_some f.maximum || is_some f.max_inclusive || is_some f.max_exclusive)

-- the lengths alone
abbrev pub length_breaks : Simple → Value → Facets → Broken
length_breaks s v f = record {
  wrong_length = fails (λ n k. not (n == k)) (length_of s v) f.length;
  too_short = fails (λ n k. nat_lt n k) (length_of s v) f.min_length;
  too_long = fails (λ n k. nat_lt k n) (length_of s v) f.max_length;
  below_minimum = false;
  above_maximum = false;
}

abbrev pub breaks : Simple → Value → Facets → Broken
breaks s v f = record (length_breaks s v f) {
  below_minimum = is_over s f.minimum (Some v) || is_over s f.min_inclusive (Some v) || is_not_under s f.min_exclusive (Some v);
  above_maximum = is_over s (Some v) f.maximum || is_over s (Some v) f.max_inclusive || is_not_under s (Some v) f.max_exclusive;
}

-- no facet is broken
abbrev pub unbroken : Broken
unbroken = record { wrong_length = false; too_short = false; too_long = false; below_minimum = false; above_maximum = false }

-- a facet is about such a value: a length about a text, a bound about a value with an order
abbrev pub is_faceted : Value → Facets → Bool
is_faceted (Text text) f = has_lengths f || has_bounds f
is_faceted (Truth b) f = false
is_faceted (Number z) f = has_bounds f
is_faceted (Day day) f = has_bounds f
is_faceted (Moment moment) f = has_bounds f
