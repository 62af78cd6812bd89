-- A number has one text in its lexical form.
use Rattle.std.proofs.Common.{◌≡◌, ◌≢◌, ◌↔◌, ℕ, zero, suc, ◌+◌, ◌-◌, ◌*◌, ◌%◌, ◌^◌, ◌<◌, ◌≤◌, ◌⊎◌, inl, inr, ⊎_elim, Option, Some, None, IfSome}
use Rattle.std.proofs.Common.{unwrap_or, List, [], ◌∷◌, ◌++◌, length, filter, refl, sym, ap, subst, ◌∙◌, arith, ℤ, unsigned_abs, mul-le-mul_right}
use Rattle.std.specs.List.{AllByRecursion}
use Rattle.std.specs.Char.{IsAsciiDigit, is_ascii_digit}
use Rattle.std.specs.Str.Parse.{digits_value}
use Rattle.std.proofs.lemmas.Bool.{cases_order, cond-true}
use Rattle.std.proofs.lemmas.Nat.{pow-add}
use Rattle.std.proofs.Math.Nat.{pow-suc, mul-mod_left, mul-add-mod_self_right, pow-le-pow_right, mul-lt-mul_of_pos_right}
use Rattle.csvw_datatype_core.specs.declared.number.Mark.{Mark}
use Rattle.csvw_datatype_core.specs.declared.number.Mark.TheVariants.{Plain}
use Rattle.csvw_datatype_core.specs.Numbers.{Sign, NoSign, Plus, Minus, sign_text, fraction_text, mark_text, divisor, signed, fraction_digits}
use Rattle.csvw_datatype_core.specs.Numbers.{IsGrouped, IsFraction}
use Rattle.csvw_datatype_core.specs.LexicalNumbers.{plain_rules, HasNoLeadingZero, HasNoTrailingZero, IsLexicalNumber}
use Rattle.csvw_datatype_core.proofs.KindLemmas.{digit_test}
use Rattle.csvw_datatype_core.proofs.Spelled.{whole_value}
use Rattle.csvw_datatype_core.proofs.Answer.{digits_split, cancel}
use Rattle.csvw_datatype_core.proofs.Counts.{pow_is_pos, value-cons, value-below}
use Rattle.csvw_datatype_core.proofs.OneText.{quotients, order, same_digits}

-- signs and counts

signed_abs : (s : Sign) (n : ℕ) → unsigned_abs (signed s n) ≡ n
signed_abs NoSign n = refl
signed_abs Plus n = refl
signed_abs Minus zero = refl
signed_abs Minus (suc n) = refl

one_sign : (P : Type 0) (s t : Sign) → ((s ≡ Minus) ↔ P) → ((t ≡ Minus) ↔ P) → s ≢ Plus → t ≢ Plus → s ≡ t
one_sign P NoSign NoSign a b m n = refl
one_sign P Minus Minus a b m n = refl
one_sign P NoSign Minus a b m n = a.1 (b.0 refl)
one_sign P Minus NoSign a b m n = sym (b.1 (a.0 refl))
one_sign P Plus t a b m n = absurd (m refl)
one_sign P s Plus a b m n = absurd (n refl)

-- whole parts

grouped_digits : (cs : List ℕ) → IsGrouped None cs → AllByRecursion IsAsciiDigit cs
grouped_digits [] h = absurd h
grouped_digits (c ∷ []) h = (h, tt)
grouped_digits (c ∷ d ∷ cs) h = (h.0, elim h.1 [ inl r ↦ grouped_digits (d ∷ cs) r | inr r ↦ absurd (cc (r.0)) ])

whole_digits : (cs : List ℕ) → (cs ≡ []) ⊎ IsGrouped None cs → HasNoLeadingZero cs → AllByRecursion IsAsciiDigit cs
whole_digits cs (inl e) h = absurd (subst HasNoLeadingZero e h)
whole_digits cs (inr g) h = grouped_digits cs g

all_kept : (cs : List ℕ) → AllByRecursion IsAsciiDigit cs → filter is_ascii_digit cs ≡ cs
all_kept [] h = refl
all_kept (c ∷ cs) h = cond-true _ _ _ (digit_test c h.0) ∙ ap (λ x. c ∷ x) (all_kept cs h.1)

longer : (x y p q b : ℕ) → x < p → p ≤ q → 1 ≤ b → x ≡ b * q + y → ⊥
longer x y p q b h l m e = omega (arith, e, mul-le-mul_right q m)

shorter : (xs ys : List ℕ) → AllByRecursion IsAsciiDigit xs → AllByRecursion IsAsciiDigit ys → HasNoLeadingZero xs → HasNoLeadingZero ys
    → digits_value 10 xs ≡ digits_value 10 ys → length xs < length ys → ⊥
shorter [] ys h k m n e l = m
shorter (x ∷ xs) [] h k m n e l = n
shorter (x ∷ xs) (y ∷ []) h k m n e l = omega (arith, l)
shorter (x ∷ xs) (y ∷ z ∷ ys) h k m n e l =
    let most : 10 ^ length (x ∷ xs) ≤ 10 ^ length (z ∷ ys) = pow-le-pow_right (omega arith) (omega (arith, l)) in
    let first : 1 ≤ y - 48 = omega (arith, k.0, n) in
    longer (digits_value 10 (x ∷ xs)) (digits_value 10 (z ∷ ys)) (10 ^ length (x ∷ xs)) (10 ^ length (z ∷ ys)) (y - 48)
    (value-below (x ∷ xs) h) most first (e ∙ value-cons y (z ∷ ys) k.0)

same_whole : (xs ys : List ℕ) → AllByRecursion IsAsciiDigit xs → AllByRecursion IsAsciiDigit ys → HasNoLeadingZero xs → HasNoLeadingZero ys
    → digits_value 10 xs ≡ digits_value 10 ys → xs ≡ ys
same_whole xs ys h k m n e = same_digits xs ys h k (order (length xs) (length ys) (shorter xs ys h k m n e) (shorter ys xs k h n m (sym e))) e

-- fractions

abbrev IsTrimmed : List ℕ → Type 0
IsTrimmed ds = (ds ≡ []) ⊎ HasNoTrailingZero ds

trimmed : (o : Option (List ℕ)) → IfSome o HasNoTrailingZero → IsTrimmed (unwrap_or o [])
trimmed None h = inl refl
trimmed (Some ds) h = inr h

all_digits : (o : Option (List ℕ)) → IsFraction plain_rules o → AllByRecursion IsAsciiDigit (unwrap_or o [])
all_digits None h = tt
all_digits (Some ds) h = h.1

same_option : (o p : Option (List ℕ)) → IfSome o HasNoTrailingZero → IfSome p HasNoTrailingZero → unwrap_or o [] ≡ unwrap_or p [] → o ≡ p
same_option None None h k e = refl
same_option None (Some ds) h k e = absurd (subst HasNoTrailingZero (sym e) k)
same_option (Some ds) None h k e = absurd (subst HasNoTrailingZero e h)
same_option (Some ds) (Some es) h k e = ap Some e

last_digit : (ds : List ℕ) → AllByRecursion IsAsciiDigit ds → HasNoTrailingZero ds → digits_value 10 ds % 10 ≡ 0 → ⊥
last_digit [] h n e = n
last_digit (c ∷ []) h n e = omega (arith, sym (value-cons c [] h.0) ∙ refl, value-cons c [] h.0, h.0, n, e)
last_digit (c ∷ d ∷ cs) h n e =
    let p : digits_value 10 (c ∷ d ∷ cs) ≡ (c - 48) * 10 ^ length cs * 10 + digits_value 10 (d ∷ cs) = value-cons c (d ∷ cs) h.0
    ∙ ap (λ x. (c - 48) * x + digits_value 10 (d ∷ cs)) (pow-suc 10 (length cs)) ∙ omega arith in
    last_digit (d ∷ cs) h.1 n (sym (mul-add-mod_self_right ((c - 48) * 10 ^ length cs) 10 (digits_value 10 (d ∷ cs))) ∙ ap (λ x. x % 10) (sym p) ∙ e)

no_more : (x e : ℕ) → x * 10 ^ suc e % 10 ≡ 0
no_more x e = ap (λ p. x * p % 10) (pow-suc 10 e) ∙ ap (λ p. p % 10) (omega arith) ∙ mul-mod_left (x * 10 ^ e) 10

-- no digits follow that a trimmed fraction has and the other not
same_fraction : (fs gs : List ℕ) (e : ℕ) → AllByRecursion IsAsciiDigit fs → AllByRecursion IsAsciiDigit gs → length gs ≡ length fs + e
    → IsTrimmed gs → digits_value 10 fs * 10 ^ e ≡ digits_value 10 gs → fs ≡ gs
same_fraction fs gs zero h k l t v = same_digits fs gs h k (omega (arith, l)) (omega (arith, v))
same_fraction fs gs (suc e) h k l (inl t) v = absurd (omega (arith, l, ap length t))
same_fraction fs gs (suc e) h k l (inr t) v = absurd (last_digit gs k t (ap (λ x. x % 10) (sym v) ∙ no_more (digits_value 10 fs) e))

below : (f p q : ℕ) → f < p → 0 < q → f * q < p * q
below f p q h l = mul-lt-mul_of_pos_right h l

scaled : (n w v f g p q t : ℕ) → 0 < t → n * p ≡ (w * p + f) * t → n * (p * q) ≡ (v * (p * q) + g) * t → w * (p * q) + f * q ≡ v * (p * q) + g
scaled n w v f g p q t l d e =
    let a : n * (p * q) ≡ (w * p + f) * t * q = omega arith ∙ ap (λ x. x * q) d in
    let b : (w * p + f) * t * q ≡ (w * (p * q) + f * q) * t = omega arith in
    cancel (w * (p * q) + f * q) (v * (p * q) + g) t l (sym b ∙ sym a ∙ e)

abbrev Same : ℕ → ℕ → List ℕ → List ℕ → Type 0
Same w v fs gs = (w ≡ v) × (fs ≡ gs)

abbrev Counts : ℕ → ℕ → List ℕ → Type 0
Counts n w fs = n * 10 ^ length fs ≡ (w * 10 ^ length fs + digits_value 10 fs) * 10 ^ 18

aligned : (n w v : ℕ) (fs gs : List ℕ) → AllByRecursion IsAsciiDigit fs → AllByRecursion IsAsciiDigit gs → length fs ≤ length gs → IsTrimmed gs
    → Counts n w fs → Counts n v gs → Same w v fs gs
aligned n w v fs gs h k l t a b =
    let e = length gs - length fs in
    let long : length gs ≡ length fs + e = omega (arith, l) in
    let power : 10 ^ length gs ≡ 10 ^ length fs * 10 ^ e = ap (λ n. 10 ^ n) long ∙ pow-add 10 (length fs) e in
    let P : ℕ → Type 0 = λ x. n * x ≡ (v * x + digits_value 10 gs) * 10 ^ 18 in
    let s = scaled n w v (digits_value 10 fs) (digits_value 10 gs) (10 ^ length fs) (10 ^ e) (10 ^ 18) (omega arith) a (subst P power b) in
    let small : digits_value 10 gs < 10 ^ length fs * 10 ^ e = subst (λ x. digits_value 10 gs < x) power (value-below gs k) in
    let q = quotients w v (10 ^ length fs * 10 ^ e) (digits_value 10 fs * 10 ^ e) (digits_value 10 gs)
    (below _ _ _ (value-below fs h) (pow_is_pos e)) small s in
    (q.0, same_fraction fs gs e h k long t q.1)

one_split : (n w v : ℕ) (fs gs : List ℕ) → AllByRecursion IsAsciiDigit fs → AllByRecursion IsAsciiDigit gs → IsTrimmed fs → IsTrimmed gs
    → Counts n w fs → Counts n v gs → Same w v fs gs
one_split n w v fs gs h k s t a b =
    ⊎_elim (λ (e : length fs ≡ length gs). aligned n w v fs gs h k (omega (arith, e)) t a b)
    (λ (r : (length fs < length gs) ⊎ (length gs < length fs)).
    ⊎_elim (λ (l : length fs < length gs). aligned n w v fs gs h k (omega (arith, l)) t a b)
    (λ (l : length gs < length fs). let q = aligned n v w gs fs k h (omega (arith, l)) s b a in (sym q.0, sym q.1)) r)
    (cases_order (length fs) (length gs))

-- numbers

lexical_whole : (cs : List ℕ) (z : ℤ) (r : IsLexicalNumber cs z) → AllByRecursion IsAsciiDigit r.reads.parts.whole
lexical_whole cs z r = whole_digits r.reads.parts.whole r.reads.is_number.whole r.whole

counts : (cs : List ℕ) (z : ℤ) (r : IsLexicalNumber cs z) → Counts r.reads.count (digits_value 10 r.reads.parts.whole) (fraction_digits r.reads.parts)
counts cs z r =
    let p = r.reads.parts in
    let one : divisor p.mark ≡ 1 = ap divisor r.no_mark in
    let left : r.reads.count * 10 ^ length (fraction_digits p) ≡ r.reads.count * (10 ^ length (fraction_digits p) * divisor p.mark) = omega arith
    ∙ ap (λ d. r.reads.count * (10 ^ length (fraction_digits p) * d)) (sym one) in
    let whole : whole_value 0 p.whole ≡ digits_value 10 p.whole = ap (digits_value 10) (all_kept p.whole (lexical_whole cs z r)) in
    left ∙ r.reads.is_count ∙ ap (λ x. x * 10 ^ 18) (digits_split p ∙ ap (λ w. w * 10 ^ length (fraction_digits p) + digits_value 10 (fraction_digits p)) whole)

text : Sign → List ℕ → Option (List ℕ) → Mark → List ℕ
text s w f m = sign_text s ++ (w ++ (fraction_text (Some 46) f ++ mark_text m))

spelled : (cs : List ℕ) (z : ℤ) (r : IsLexicalNumber cs z) → cs ≡ text r.reads.parts.sign r.reads.parts.whole r.reads.parts.fraction Plain
unfolding text
spelled cs z r = r.reads.spelled ∙ ap (λ m. text r.reads.parts.sign r.reads.parts.whole r.reads.parts.fraction m) r.no_mark

pub one_number_text : (cs ds : List ℕ) (z : ℤ) → IsLexicalNumber cs z → IsLexicalNumber ds z → cs ≡ ds
one_number_text cs ds z r s =
    let p = r.reads.parts in
    let q = s.reads.parts in
    let sign : p.sign ≡ q.sign = one_sign _ p.sign q.sign r.minus s.minus r.no_plus s.no_plus in
    let count : r.reads.count ≡ s.reads.count = sym (ap unsigned_abs r.reads.is_value ∙ signed_abs p.sign r.reads.count)
    ∙ ap unsigned_abs s.reads.is_value ∙ signed_abs q.sign s.reads.count in
    let P : ℕ → Type 0 = λ n. Counts n (digits_value 10 q.whole) (fraction_digits q) in
    let parts = one_split r.reads.count (digits_value 10 p.whole) (digits_value 10 q.whole) (fraction_digits p) (fraction_digits q)
    (all_digits p.fraction r.reads.is_number.fraction) (all_digits q.fraction s.reads.is_number.fraction)
    (trimmed p.fraction r.fraction) (trimmed q.fraction s.fraction) (counts cs z r) (subst P (sym count) (counts ds z s)) in
    let whole = same_whole p.whole q.whole (lexical_whole cs z r) (lexical_whole ds z s) r.whole s.whole parts.0 in
    let fraction = same_option p.fraction q.fraction r.fraction s.fraction parts.1 in
    spelled cs z r
    ∙ ap (λ s. text s p.whole p.fraction Plain) sign ∙ ap (λ w. text q.sign w p.fraction Plain) whole ∙ ap (λ f. text q.sign q.whole f Plain) fraction
    ∙ sym (spelled ds z s)
