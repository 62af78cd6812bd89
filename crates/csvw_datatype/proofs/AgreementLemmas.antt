-- The facets fit the type and each other exactly if the standards' words say so.
use Rattle.std.proofs.Common.{◌≡◌, ◌↔◌, ◌⊎◌, inl, inr, ℕ, ◌≤◌, ◌||◌, ◌&&◌, not, nat_lt, Bool, true, false, Option, Some, None, is_some, refl, arith}
use Rattle.std.specs.Prelude.{IsTrue}
use Rattle.std.proofs.lemmas.Bool.Decides.{nat_tests}
use Rattle.csvw_datatype.specs.declared.value.Value.{Value}
use Rattle.csvw_datatype.specs.declared.simple.Simple.{Simple}
use Rattle.csvw_datatype.specs.declared.simple.Simple.TheVariants as simples
use Rattle.csvw_datatype.specs.declared.simple.TextType.TheVariants as types
use Rattle.csvw_datatype.specs.declared.datatype.Facets.{Facets}
use Rattle.csvw_datatype.specs.Breaks.{fails, is_below, is_over, is_not_under, has_lengths}
use Rattle.csvw_datatype.specs.Sound.{lengths_apply, lengths_agree, side_agrees, bounds_agree, first_of}
use Rattle.csvw_datatype.specs.Strings.{has_length}
use Rattle.csvw_datatype.specs.Facets.{IsLess, IsAtMost}
use Rattle.csvw_datatype.specs.Agreement.{IfBoth, AreSame, HasLengths, LengthsApply, LengthsAgree, BoundsAgree, min_of, max_of}
use Rattle.csvw_datatype.proofs.FacetLemmas.{below, up_to}

no : IsTrue false → ⊥
no h = cc

is_not : (b : Bool) (P : Type 0) → IsTrue b ↔ P → IsTrue (not b) ↔ (P → ⊥)
is_not true P p = (λ h. absurd (no h), λ h. absurd (h (p.0 refl)))
is_not false P p = (λ h k. no (p.1 k), λ h. refl)

both : (a b : Bool) (P Q : Type 0) → IsTrue a ↔ P → IsTrue b ↔ Q → IsTrue (a && b) ↔ (P × Q)
both true b P Q p q = (λ h. (p.0 refl, q.0 h), λ h. q.1 h.1)
both false b P Q p q = (λ h. absurd (no h), λ h. absurd (no (p.1 h.0)))

neither : (a b : Bool) (P Q : Type 0) → IsTrue (not a) ↔ P → IsTrue (not b) ↔ Q → IsTrue (not (a || b)) ↔ (P × Q)
neither true b P Q p q = (λ h. absurd (no h), λ h. absurd (no (p.1 h.0)))
neither false b P Q p q = (λ h. (p.0 refl, q.0 h), λ h. q.1 h.1)

none_of_three : (a b c : Bool) (P Q R : Type 0) → IsTrue (not a) ↔ P → IsTrue (not b) ↔ Q → IsTrue (not c) ↔ R
    → IsTrue (not ((a || b) || c)) ↔ (P × Q × R)
none_of_three a b c P Q R p q r =
    let all = neither (a || b) c (P × Q) R (neither a b P Q p q) r in
    (λ h. let k = all.0 h in let two = k.0 in (two.0, two.1, k.1), λ h. all.1 ((h.0, h.1), h.2))

none_of_four : (a b c d : Bool) (P Q R S : Type 0) → IsTrue (not a) ↔ P → IsTrue (not b) ↔ Q → IsTrue (not c) ↔ R → IsTrue (not d) ↔ S
    → IsTrue (not (((a || b) || c) || d)) ↔ (P × Q × R × S)
none_of_four a b c d P Q R S p q r s =
    let all = neither ((a || b) || c) d (P × Q × R) S (none_of_three a b c P Q R p q r) s in
    (λ h. let k = all.0 h in let three = k.0 in (three.0, three.1, three.2, k.1), λ h. all.1 ((h.0, h.1, h.2), h.3))

not_fails : {A B : Type 0} (test : A → B → Bool) (P : A → B → Type 0) → ((a : A) (b : B) → IsTrue (not (test a b)) ↔ P a b)
    → (x : Option A) (y : Option B) → IsTrue (not (fails test x y)) ↔ IfBoth x y P
not_fails test P h None y = (λ k. tt, λ k. refl)
not_fails test P h (Some a) None = (λ k. tt, λ k. refl)
not_fails test P h (Some a) (Some b) = h a b

-- lengths

at_most : (a b : ℕ) → IsTrue (not (nat_lt b a)) ↔ (a ≤ b)
at_most a b = (λ h. grind (arith, nat_tests), λ h. grind (arith, nat_tests))

-- the other way round
turned : (x y : Option ℕ) → IsTrue (not (fails (λ n k. nat_lt n k) y x)) ↔ IfBoth x y (λ a b. a ≤ b)
turned None None = (λ k. tt, λ k. refl)
turned None (Some b) = (λ k. tt, λ k. refl)
turned (Some a) None = (λ k. tt, λ k. refl)
turned (Some a) (Some b) = at_most a b

absent : (o : Option ℕ) → IsTrue (not (is_some o)) ↔ (o ≡ None)
absent None = (λ h. refl, λ h. refl)
absent (Some n) = (λ h. absurd (no h), λ h. cc)

never : IsTrue false ↔ ⊥
never = (λ h. cc, λ h. absurd h)

neither_kind : IsTrue false ↔ (⊥ ⊎ ⊥)
neither_kind = (λ h. absurd (no h), λ h. absurd (elim h [ inl x ↦ x | inr y ↦ y ]))

derived : IsTrue true ↔ (Unit {0} ⊎ ⊥)
derived = (λ h. inl tt, λ h. refl)

octets : IsTrue true ↔ (⊥ ⊎ Unit {0})
octets = (λ h. inr tt, λ h. refl)

has_lengths_of : (s : Simple) → IsTrue (has_length s) ↔ HasLengths s
has_lengths_of simples.Text = (λ h. tt, λ h. refl)
has_lengths_of simples.Uri = never
has_lengths_of simples.Truth = never
has_lengths_of simples.Whole = never
has_lengths_of (simples.Derived w) = never
has_lengths_of simples.Decimal = never
has_lengths_of simples.Day = never
has_lengths_of simples.Moment = never
has_lengths_of (simples.Floating f) = never
has_lengths_of (simples.Other types.Any) = neither_kind
has_lengths_of (simples.Other types.Normalized) = derived
has_lengths_of (simples.Other types.Token) = derived
has_lengths_of (simples.Other types.Language) = derived
has_lengths_of (simples.Other types.Name) = derived
has_lengths_of (simples.Other types.NameToken) = derived
has_lengths_of (simples.Other types.QualifiedName) = neither_kind
has_lengths_of (simples.Other types.Xml) = derived
has_lengths_of (simples.Other types.Html) = derived
has_lengths_of (simples.Other types.Json) = derived
has_lengths_of (simples.Other types.Time) = neither_kind
has_lengths_of (simples.Other types.Date) = neither_kind
has_lengths_of (simples.Other (types.DateTime z)) = neither_kind
has_lengths_of (simples.Other (types.Part p)) = neither_kind
has_lengths_of (simples.Other (types.Binary form)) = octets
has_lengths_of (simples.Other (types.Duration kind)) = neither_kind

one_of : (a b : Bool) (P Q : Type 0) → IsTrue a ↔ P → IsTrue b ↔ Q → IsTrue (a || b) ↔ (P ⊎ Q)
one_of true b P Q p q = (λ h. inl (p.0 refl), λ h. refl)
one_of false b P Q p q = (λ h. inr (q.0 h), λ h. elim h [ inl x ↦ absurd (no (p.1 x)) | inr y ↦ q.1 y ])

no_lengths : (f : Facets) → IsTrue (not (has_lengths f)) ↔ ((f.length ≡ None) × (f.min_length ≡ None) × (f.max_length ≡ None))
no_lengths f = none_of_three (is_some f.length) (is_some f.min_length) (is_some f.max_length) _ _ _
    (absent f.length) (absent f.min_length) (absent f.max_length)

pub applies : (s : Simple) (f : Facets) → IsTrue (lengths_apply s f) ↔ LengthsApply s f
applies s f = one_of (has_length s) (not (has_lengths f)) _ _ (has_lengths_of s) (no_lengths f)

pub agree_lengths : (f : Facets) → IsTrue (lengths_agree f) ↔ LengthsAgree f
agree_lengths f =
    let a = turned f.min_length f.max_length in
    let b = turned f.min_length f.length in
    let c = turned f.length f.max_length in
    let p = none_of_three _ _ _ _ _ _ a b c in
    (λ h. let k = p.0 h in record { range = k.0; low = k.1; high = k.2 }, λ h. p.1 (h.range, h.low, h.high))

-- bounds

not_less : (s : Simple) (a b : Value) → IsTrue (not (is_below s b a)) ↔ (IsLess s b a → ⊥)
not_less s a b = is_not (is_below s b a) (IsLess s b a) (below s b a)

same : (s : Simple) (a b : Value) → IsTrue (not (is_below s a b || is_below s b a)) ↔ AreSame s a b
same s a b = neither (is_below s a b) (is_below s b a) _ _ (not_less s b a) (not_less s a b)

not_over : (s : Simple) (x y : Option Value) → IsTrue (not (is_over s x y)) ↔ IfBoth x y (λ a b. IsLess s b a → ⊥)
not_over s x y = not_fails (λ a b. is_below s b a) _ (not_less s) x y

under : (s : Simple) (x y : Option Value) → IsTrue (not (is_not_under s x y)) ↔ IfBoth x y (λ a b. IsAtMost s b a → ⊥)
under s x y = not_fails _ _ (λ a b. is_not _ (IsAtMost s b a) (up_to s b a)) x y

alone : (x y z : Option Value) → IsTrue (not (is_some z && (is_some x || is_some y))) ↔ IfBoth z (first_of x y) (λ a b. ⊥)
alone x y None = (λ h. tt, λ h. refl)
alone None None (Some c) = (λ h. tt, λ h. refl)
alone None (Some b) (Some c) = (λ h. no h, λ h. absurd h)
alone (Some a) y (Some c) = (λ h. no h, λ h. absurd h)

-- the bounds of one side: two inclusive ones are the same, and none stands beside an exclusive one
record SideAgrees (s : Simple) (x y z : Option Value) : Type 0 where
  pub one : IfBoth x y (AreSame s)
  pub alone : IfBoth z (first_of x y) (λ a b. ⊥)

side : (s : Simple) (x y z : Option Value) → IsTrue (side_agrees s x y z) ↔ SideAgrees s x y z
side s x y z =
    let p = both _ _ _ _ (not_fails _ (AreSame s) (same s) x y) (alone x y z) in
    (λ h. let k = p.0 h in record { one = k.0; alone = k.1 }, λ h. p.1 (h.one, h.alone))

pub agree_bounds : (s : Simple) (f : Facets) → IsTrue (bounds_agree s f) ↔ BoundsAgree s f
agree_bounds s f =
    let low = side s f.minimum f.min_inclusive f.min_exclusive in
    let high = side s f.maximum f.max_inclusive f.max_exclusive in
    let a = not_over s (min_of f) (max_of f) in
    let b = not_over s f.min_exclusive f.max_exclusive in
    let c = under s (min_of f) f.max_exclusive in
    let d = under s f.min_exclusive (max_of f) in
    let sides = both _ _ _ _ low high in
    let across = none_of_four _ _ _ _ _ _ _ _ a b c d in
    let all = both _ _ _ _ sides across in (
      λ h.
          let k = all.0 h in
          let ends = k.0 in
          let minimum = ends.0 in
          let maximum = ends.1 in
          let pairs = k.1 in record {
            one_minimum = minimum.one;
            one_maximum = maximum.one;
            minimum_alone = minimum.alone;
            maximum_alone = maximum.alone;
            inclusive = pairs.0;
            exclusive = pairs.1;
            below_exclusive = pairs.2;
            above_exclusive = pairs.3;
          },
      λ h.
          let minimum : SideAgrees s f.minimum f.min_inclusive f.min_exclusive = record { one = h.one_minimum; alone = h.minimum_alone } in
          let maximum : SideAgrees s f.maximum f.max_inclusive f.max_exclusive = record { one = h.one_maximum; alone = h.maximum_alone } in
          all.1 ((minimum, maximum), (h.inclusive, h.exclusive, h.below_exclusive, h.above_exclusive)),
    )
