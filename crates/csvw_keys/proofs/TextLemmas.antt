-- Stored texts compare as equal exactly if they are equal. A short text is found again among its bytes and the zeros after them.
use Rattle.std.proofs.Common.{if◌then◌else◌, ◌≡◌, ℕ, ◌++◌, List, length, take, drop, replicate, [], ◌∷◌, Bool, true, false, ◌&&◌, refl, sym, ap, ◌∙◌, nat_eq, nat_le, bytes_eq}
use Rattle.std.specs.Cmp.{both_tied, unsigned_ties}
use Rattle.std.specs.Ordering.{is_eq}
use Rattle.std.proofs.lemmas.Bool.{and_from, and_parts, eq-eqb, eqb-true}
use Rattle.std.proofs.lemmas.Map.Text.{is_eq-slice_cmp}
use Rattle.std.proofs.lemmas.Slice.Eq.{bytes_eq-Decides}
use Rattle.csvw_keys.specs.contracts.held_value.HeldValueOrd.TheImpl as derived
use Rattle.csvw_keys.specs.declared.held_value.HeldValue.{HeldValue}
use Rattle.csvw_keys.specs.declared.held_value.HeldValue.TheVariants.{Short, Text}
use Rattle.csvw_keys.specs.declared.held_value.TheConstants.{SHORT}
use Rattle.csvw_keys.specs.Held.{held_text, padded}

abbrev pub is_same : HeldValue → HeldValue → Bool
is_same a b = is_eq (derived.ghosts.cmp a b)

pub agree : (s t : Bool) → (s ≡ true → t ≡ true) → (t ≡ true → s ≡ true) → s ≡ t
agree true t there back = sym (there refl)
agree false true there back = back refl
agree false false there back = refl

abbrev as_short : List ℕ → HeldValue
as_short text = Short (padded text) (length text)

abbrev as_long : List ℕ → HeldValue
as_long text = Text (record { value = text })

abbrev is_short : List ℕ → Bool
is_short text = nat_le (length text) SHORT

-- ---- what holds of both kinds of stored texts

either : (P : HeldValue → Type 0) (b : Bool) (short long : HeldValue) → P short → P long → P (if b then short else long)
either P true short long p q = p
either P false short long p q = q

pub on_text : (P : HeldValue → Type 0) (text : List ℕ) → P (as_short text) → P (as_long text) → P (held_text text)
on_text P text short long = either P (is_short text) (as_short text) (as_long text) short long

-- ---- short texts

front_of : (text rest : List ℕ) → take (length text) (text ++ rest) ≡ text
front_of [] rest = refl
front_of (c ∷ text) rest = ap (λ t. c ∷ t) (front_of text rest)

abbrev zeros : List ℕ → List ℕ
zeros text = drop (length text) (replicate SHORT 0)

same_text : (a b : List ℕ) → padded a ≡ padded b → length a ≡ length b → a ≡ b
same_text a b bytes len =
    sym (front_of a (zeros a)) ∙ ap (λ n. take n (padded a)) len ∙ ap (take (length b)) bytes ∙ front_of b (zeros b)

by_parts : (a b : List ℕ) → bytes_eq a b ≡ (bytes_eq (padded a) (padded b) && nat_eq (length a) (length b))
by_parts a b =
    agree _ _
    (λ same. let equal = (bytes_eq-Decides a b).0 same in
    and_from _ _ ((bytes_eq-Decides (padded a) (padded b)).1 (ap padded equal)) (eq-eqb _ _ (ap length equal)))
    (λ both. let parts = and_parts _ _ both in
    (bytes_eq-Decides a b).1 (same_text a b ((bytes_eq-Decides (padded a) (padded b)).0 parts.0) (eqb-true _ _ parts.1)))

shorts : (a b : List ℕ) → bytes_eq a b ≡ is_same (as_short a) (as_short b)
shorts a b =
    by_parts a b ∙ both_tied _ _ _ _ (sym (is_eq-slice_cmp (padded a) (padded b))) (unsigned_ties (length a) (length b))

-- ---- texts of both kinds

never : (s : Bool) → (s ≡ true → false ≡ true) → s ≡ false
never false h = refl
never true h = sym (h refl)

apart : (a b : List ℕ) → is_short a ≡ true → is_short b ≡ false → bytes_eq a b ≡ false
apart a b short long = never _ (λ same. sym long ∙ sym (ap is_short ((bytes_eq-Decides a b).0 same)) ∙ short)

apart_back : (a b : List ℕ) → is_short a ≡ false → is_short b ≡ true → bytes_eq a b ≡ false
apart_back a b long short = never _ (λ same. sym long ∙ ap is_short ((bytes_eq-Decides a b).0 same) ∙ short)

texts_by : (p q : Bool) (a b : List ℕ) → is_short a ≡ p → is_short b ≡ q
    → bytes_eq a b ≡ is_same (if p then as_short a else as_long a) (if q then as_short b else as_long b)
texts_by true true a b p q = shorts a b
texts_by true false a b p q = apart a b p q
texts_by false true a b p q = apart_back a b p q
texts_by false false a b p q = sym (is_eq-slice_cmp a b)

pub texts_are : (a b : List ℕ) → bytes_eq a b ≡ is_same (held_text a) (held_text b)
texts_are a b = texts_by (is_short a) (is_short b) a b refl refl
