-- The broken facets are those that are broken by the standards' words.
use Rattle.std.proofs.Common.{◌≢◌, ◌↔◌, ◌⊎◌, inl, inr, ℕ, ◌<◌, ◌||◌, ◌==◌, not, nat_lt, Bool, true, false, Option, Some, None, refl, arith, ℤ}
use Rattle.std.proofs.Common.{◌<ℤ◌, ◌≤ℤ◌}
use Rattle.std.specs.Prelude.{IsTrue}
use lib.Signed.{lt_z}
use Rattle.std.specs.Ordering.{is_ge, is_gt, is_some_and}
use Rattle.std.proofs.lemmas.Bool.Decides.{nat_tests}
use Rattle.std.proofs.lemmas.Int.{ints, by_lt_z}
use Rattle.csvw_datatype.specs.declared.simple.Simple.{Simple}
use Rattle.csvw_datatype.specs.declared.value.Value.{Value}
use Rattle.csvw_datatype.specs.declared.value.Value.TheVariants.{Text, Truth, Number, Day, Moment}
use Rattle.csvw_datatype.specs.declared.datatype.Facets.{Facets}
use Rattle.csvw_datatype.specs.Breaks.{is_below, is_up_to, length_of, text_length, fails, is_over, is_not_under, breaks}
use Rattle.csvw_datatype.specs.Order.{kept_cmp}
use Rattle.csvw_datatype.specs.Facets.{IsThereAnd, HasLength, IsLess, IsAtMost, SaysWhatBreaks}

-- tests

is_less : (a b : ℤ) → IsTrue (lt_z a b) ↔ (a <ℤ b)
is_less a b =
    by_lt_z a b (λ l. (λ h. l, λ k. grind (arith, ints, nat_tests)))
    (λ l. (λ h. grind (arith, ints, nat_tests), λ k. absurd (omega (arith, ints, l, k))))

is_at_most : (a b : ℤ) → IsTrue (not (lt_z b a)) ↔ (a ≤ℤ b)
is_at_most a b =
    by_lt_z b a (λ l. (λ h. grind (arith, ints, nat_tests), λ k. absurd (omega (arith, ints, l, k))))
    (λ l. (λ h. l, λ k. grind (arith, ints, nat_tests)))

differs : (n k : ℕ) → IsTrue (not (n == k)) ↔ (n ≢ k)
differs n k = (λ h. grind (arith, nat_tests), λ h. grind (arith, nat_tests))

is_short : (n k : ℕ) → IsTrue (nat_lt n k) ↔ (n < k)
is_short n k = (λ h. grind (arith, nat_tests), λ h. grind (arith, nat_tests))

never : IsTrue false ↔ ⊥
never = (λ h. cc, λ h. absurd h)

unless : (b : Bool) → IsTrue (not b) ↔ (IsTrue b → ⊥)
unless true = (λ h. absurd (never.0 h), λ h. absurd (h refl))
unless false = (λ h k. never.0 k, λ h. refl)

pub below : (s : Simple) (v w : Value) → IsTrue (is_below s v w) ↔ IsLess s v w
below s (Number a) (Number b) = is_less a b
below s (Day a) (Day b) = is_less a b
below s (Moment a) (Moment b) = is_less a b
below s (Number a) (Text t) = never
below s (Number a) (Truth t) = never
below s (Number a) (Day t) = never
below s (Number a) (Moment t) = never
below s (Day a) (Text b) = unless (is_some_and is_ge (kept_cmp s (Day a) (Text b)))
below s (Day a) (Truth t) = never
below s (Day a) (Number t) = never
below s (Day a) (Moment t) = never
below s (Moment a) (Text b) = unless (is_some_and is_ge (kept_cmp s (Moment a) (Text b)))
below s (Moment a) (Truth t) = never
below s (Moment a) (Number t) = never
below s (Moment a) (Day t) = never
below s (Text a) (Text b) = unless (is_some_and is_ge (kept_cmp s (Text a) (Text b)))
below s (Text a) (Truth t) = never
below s (Text a) (Number t) = never
below s (Text a) (Day b) = unless (is_some_and is_ge (kept_cmp s (Text a) (Day b)))
below s (Text a) (Moment b) = unless (is_some_and is_ge (kept_cmp s (Text a) (Moment b)))
below s (Truth a) w = never

pub up_to : (s : Simple) (v w : Value) → IsTrue (is_up_to s v w) ↔ IsAtMost s v w
up_to s (Number a) (Number b) = is_at_most a b
up_to s (Day a) (Day b) = is_at_most a b
up_to s (Moment a) (Moment b) = is_at_most a b
up_to s (Number a) (Text t) = never
up_to s (Number a) (Truth t) = never
up_to s (Number a) (Day t) = never
up_to s (Number a) (Moment t) = never
up_to s (Day a) (Text b) = unless (is_some_and is_gt (kept_cmp s (Day a) (Text b)))
up_to s (Day a) (Truth t) = never
up_to s (Day a) (Number t) = never
up_to s (Day a) (Moment t) = never
up_to s (Moment a) (Text b) = unless (is_some_and is_gt (kept_cmp s (Moment a) (Text b)))
up_to s (Moment a) (Truth t) = never
up_to s (Moment a) (Number t) = never
up_to s (Moment a) (Day t) = never
up_to s (Text a) (Text b) = unless (is_some_and is_gt (kept_cmp s (Text a) (Text b)))
up_to s (Text a) (Truth t) = never
up_to s (Text a) (Number t) = never
up_to s (Text a) (Day b) = unless (is_some_and is_gt (kept_cmp s (Text a) (Day b)))
up_to s (Text a) (Moment b) = unless (is_some_and is_gt (kept_cmp s (Text a) (Moment b)))
up_to s (Truth a) w = never

-- facets

lengths : (test : ℕ → ℕ → Bool) (P : ℕ → ℕ → Type 0) (s : Simple) (v : Value) (o : Option ℕ) → ((n k : ℕ) → IsTrue (test n k) ↔ P n k)
    → IsTrue (fails test (length_of s v) o) ↔ IsThereAnd o (λ k. HasLength s v (λ n. P n k))
lengths test P s (Text t) None h = never
lengths test P s (Truth t) None h = never
lengths test P s (Number t) None h = never
lengths test P s (Day t) None h = never
lengths test P s (Moment t) None h = never
lengths test P s (Text t) (Some k) h = h (text_length s t) k
lengths test P s (Truth t) (Some k) h = never
lengths test P s (Number t) (Some k) h = never
lengths test P s (Day t) (Some k) h = never
lengths test P s (Moment t) (Some k) h = never

under : (s : Simple) (v : Value) (o : Option Value) → IsTrue (is_over s o (Some v)) ↔ IsThereAnd o (λ b. IsLess s v b)
under s v None = never
under s v (Some b) = below s v b

over : (s : Simple) (v : Value) (o : Option Value) → IsTrue (is_over s (Some v) o) ↔ IsThereAnd o (λ b. IsLess s b v)
over s v None = never
over s v (Some b) = below s b v

not_above : (s : Simple) (v : Value) (o : Option Value) → IsTrue (is_not_under s o (Some v)) ↔ IsThereAnd o (λ b. IsAtMost s v b)
not_above s v None = never
not_above s v (Some b) = up_to s v b

not_below : (s : Simple) (v : Value) (o : Option Value) → IsTrue (is_not_under s (Some v) o) ↔ IsThereAnd o (λ b. IsAtMost s b v)
not_below s v None = never
not_below s v (Some b) = up_to s b v

any : (a b c : Bool) (P Q R : Type 0) → IsTrue a ↔ P → IsTrue b ↔ Q → IsTrue c ↔ R → IsTrue (a || b || c) ↔ (P ⊎ (Q ⊎ R))
any true b c P Q R p q r = (λ h. inl (p.0 refl), λ h. refl)
any false true c P Q R p q r = (λ h. inr (inl (q.0 refl)), λ h. refl)
any false false c P Q R p q r =
    (λ h. inr (inr (r.0 h)), λ h. elim h [ inl x ↦ absurd (never.0 (p.1 x)) | inr y ↦ elim y [ inl x ↦ absurd (never.0 (q.1 x)) | inr z ↦ r.1 z ] ])

pub says_what_breaks : (s : Simple) (v : Value) (f : Facets) → SaysWhatBreaks s v f (breaks s v f)
says_what_breaks s v f = record {
  length = lengths (λ n k. not (n == k)) (λ n k. n ≢ k) s v f.length differs;
  min_length = lengths (λ n k. nat_lt n k) (λ n k. n < k) s v f.min_length is_short;
  max_length = lengths (λ n k. nat_lt k n) (λ n k. k < n) s v f.max_length (λ n k. is_short k n);
  minimum = any _ _ _ _ _ _ (under s v f.minimum) (under s v f.min_inclusive) (not_above s v f.min_exclusive);
  maximum = any _ _ _ _ _ _ (over s v f.maximum) (over s v f.max_inclusive) (not_below s v f.max_exclusive);
}
