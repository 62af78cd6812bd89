-- If no facet asks for a length, no length is broken. If no facet is a bound, no bound is broken. Booleans break no bound, and only texts break a length.
use Rattle.std.proofs.Common.{◌≡◌, ℕ, List, ◌||◌, Bool, true, false, Option, Some, None, is_some, ◌==◌, not, nat_lt, refl, sym, ap, ◌∙◌}
use Rattle.csvw_datatype.specs.declared.simple.Simple.{Simple}
use Rattle.csvw_datatype.specs.declared.value.Value.{Value}
use Rattle.csvw_datatype.specs.declared.value.Value.TheVariants.{Text, Truth, Number, Day, Moment}
use Rattle.csvw_datatype.specs.declared.datatype.Facets.{Facets}
use Rattle.csvw_datatype.specs.declared.facets.Broken.{Broken}
use Rattle.csvw_datatype.specs.Breaks.{fails, is_below, is_up_to, is_over, is_not_under, length_of, has_lengths}
use Rattle.csvw_datatype.specs.Breaks.{has_bounds, length_breaks, breaks, unbroken, is_faceted}

or_none : (a b : Bool) → (a || b) ≡ false → (a ≡ false) × (b ≡ false)
or_none true b h = cc
or_none false b h = (refl, h)

absent : (test : ℕ → ℕ → Bool) (a b : Option ℕ) → is_some b ≡ false → fails test a b ≡ false
absent test a (Some k) h = cc
absent test None None h = refl
absent test (Some n) None h = refl

lengths : Bool → Bool → Bool → Broken
lengths a b c = record { wrong_length = a; too_short = b; too_long = c; below_minimum = false; above_maximum = false }

all_false : (a b c : Bool) → a ≡ false → b ≡ false → c ≡ false → lengths false false false ≡ lengths a b c
all_false a b c p q r = rw (p, q, r) refl

pub unmeasured : (s : Simple) (v : Value) (f : Facets) → has_lengths f ≡ false
    → record { wrong_length = false; too_short = false; too_long = false; below_minimum = false; above_maximum = false } ≡ length_breaks s v f
unfolding lengths
unmeasured s v f h =
    let p = or_none (is_some f.length || is_some f.min_length) (is_some f.max_length) h in
    let q = or_none (is_some f.length) (is_some f.min_length) p.0 in
    all_false _ _ _
    (absent (λ n k. not (n == k)) (length_of s v) f.length q.0)
    (absent (λ n k. nat_lt n k) (length_of s v) f.min_length q.1)
    (absent (λ n k. nat_lt k n) (length_of s v) f.max_length p.1)

not_below : (s : Simple) (v : Value) (a b c : Option Value) → (is_some a || is_some b || is_some c) ≡ false
    → (is_over s a (Some v) || is_over s b (Some v) || is_not_under s c (Some v)) ≡ false
not_below s v None None None h = refl
not_below s v None None (Some z) h = cc
not_below s v None (Some y) c h = cc
not_below s v (Some x) b c h = cc

not_above : (s : Simple) (v : Value) (a b c : Option Value) → (is_some a || is_some b || is_some c) ≡ false
    → (is_over s (Some v) a || is_over s (Some v) b || is_not_under s (Some v) c) ≡ false
not_above s v None None None h = refl
not_above s v None None (Some z) h = cc
not_above s v None (Some y) c h = cc
not_above s v (Some x) b c h = cc

with_sides : Broken → Bool → Bool → Broken
with_sides b low high = record b { below_minimum = low; above_maximum = high }

pub unbounded : (s : Simple) (v : Value) (f : Facets) → has_bounds f ≡ false → length_breaks s v f ≡ breaks s v f
unfolding with_sides
unbounded s v f h =
    let p = or_none (is_some f.minimum || is_some f.min_inclusive || is_some f.min_exclusive)
    (is_some f.maximum || is_some f.max_inclusive || is_some f.max_exclusive) h in
    let low = not_below s v f.minimum f.min_inclusive f.min_exclusive p.0 in
    let high = not_above s v f.maximum f.max_inclusive f.max_exclusive p.1 in
    sym (ap (λ b. with_sides (length_breaks s v f) b
    (is_over s (Some v) f.maximum || is_over s (Some v) f.max_inclusive || is_not_under s (Some v) f.max_exclusive)) low
    ∙ ap (λ b. with_sides (length_breaks s v f) false b) high)

-- no value is below it or above it, nor is it one itself
record IsUnordered (s : Simple) (v : Value) : Type 0 where
  below : (w : Value) → is_below s v w ≡ false
  above : (w : Value) → is_below s w v ≡ false
  up_to : (w : Value) → is_up_to s v w ≡ false
  from : (w : Value) → is_up_to s w v ≡ false

truths : (s : Simple) (b : Bool) → IsUnordered s (Truth b)
truths s b = record {
  below = λ w. refl;
  above = λ w. elim w as (λ k. is_below s k (Truth b) ≡ false) [ Text t ↦ refl | Truth c ↦ refl | Number z ↦ refl | Day d ↦ refl | Moment m ↦ refl ];
  up_to = λ w. refl;
  from = λ w. elim w as (λ k. is_up_to s k (Truth b) ≡ false) [ Text t ↦ refl | Truth c ↦ refl | Number z ↦ refl | Day d ↦ refl | Moment m ↦ refl ];
}

over_it : (s : Simple) (v : Value) (o : Option Value) → IsUnordered s v → is_over s o (Some v) ≡ false
over_it s v None h = refl
over_it s v (Some x) h = h.below x

it_over : (s : Simple) (v : Value) (o : Option Value) → IsUnordered s v → is_over s (Some v) o ≡ false
it_over s v None h = refl
it_over s v (Some x) h = h.above x

not_under_it : (s : Simple) (v : Value) (o : Option Value) → IsUnordered s v → is_not_under s o (Some v) ≡ false
not_under_it s v None h = refl
not_under_it s v (Some x) h = h.up_to x

it_not_under : (s : Simple) (v : Value) (o : Option Value) → IsUnordered s v → is_not_under s (Some v) o ≡ false
it_not_under s v None h = refl
it_not_under s v (Some x) h = h.from x

none_of : (a b c : Bool) → a ≡ false → b ≡ false → c ≡ false → (a || b || c) ≡ false
none_of a b c p q r = rw (p, q, r) refl

unordered : (s : Simple) (v : Value) (f : Facets) → IsUnordered s v → breaks s v f ≡ with_sides (length_breaks s v f) false false
unfolding with_sides
unordered s v f h =
    let low = none_of _ _ _ (over_it s v f.minimum h) (over_it s v f.min_inclusive h) (not_under_it s v f.min_exclusive h) in
    let high = none_of _ _ _ (it_over s v f.maximum h) (it_over s v f.max_inclusive h) (it_not_under s v f.max_exclusive h) in
    ap (λ b. with_sides (length_breaks s v f) b
    (is_over s (Some v) f.maximum || is_over s (Some v) f.max_inclusive || is_not_under s (Some v) f.max_exclusive)) low
    ∙ ap (λ b. with_sides (length_breaks s v f) false b) high

-- a text without lengths and bounds
unfaceted_text : (s : Simple) (text : List ℕ) (f : Facets) → has_lengths f ≡ false → has_bounds f ≡ false → breaks s (Text text) f ≡ unbroken
unfaceted_text s text f lengths bounds = sym (unbounded s (Text text) f bounds) ∙ sym (unmeasured s (Text text) f lengths)

neither : (a b : Bool) → (a || b) ≡ false → (a ≡ false) × (b ≡ false)
neither true b h = cc
neither false b h = (refl, h)

pub unfaceted : (s : Simple) (v : Value) (f : Facets) → is_faceted v f ≡ false → breaks s v f ≡ unbroken
unfolding with_sides
unfaceted s (Text text) f h = let none = neither (has_lengths f) (has_bounds f) h in unfaceted_text s text f none.0 none.1
unfaceted s (Truth b) f h = unordered s (Truth b) f (truths s b)
unfaceted s (Number z) f h = sym (unbounded s (Number z) f h)
unfaceted s (Day day) f h = sym (unbounded s (Day day) f h)
unfaceted s (Moment moment) f h = sym (unbounded s (Moment moment) f h)
