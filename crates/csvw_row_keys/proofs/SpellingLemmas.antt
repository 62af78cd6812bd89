-- Keys with one spelling are equal. What is spelled ends where the next begins.
use Rattle.std.proofs.Common.{◌≡◌, ℕ, suc, ◌+◌, ◌<◌, ◌≤◌, ◌/◌, ◌%◌, List, [], ◌∷◌, ◌++◌, Bool, true, false, refl, sym, ap, ◌∙◌, subst}
use Rattle.std.proofs.Common.{append_assoc, codes, ℤ, pos, negsuc, flat_map, map, if◌then◌else◌, arith}
use Rattle.std.specs.Cmp.{signed_Decides}
use Rattle.std.specs.Cmp.Lexicographic.{pointwise, bytes_decides}
use Rattle.std.specs.Int.Digits.{AllBelowBase, digits_of}
use Rattle.std.proofs.lemmas.Bool.{and_from, and_parts, false≢true}
use Rattle.std.proofs.lemmas.Int.Digits.{all_below_base_digits_of, same_from_digits_of}
use Rattle.csvw_datatype.specs.declared.value.Value.{Value}
use Rattle.csvw_datatype.specs.declared.value.Value.TheVariants.{Text, Truth, Number, Day, Moment}
use Rattle.csvw_keys.specs.declared.key.KeyCell.{KeyCell}
use Rattle.csvw_keys.specs.declared.key.KeyCell.TheVariants.{Null, One, Many}
use Rattle.csvw_keys.specs.EqualKeys.{equal_cells, equal_keys, equal_values}
use Rattle.csvw_row_keys.specs.Spelling.{is_escaped, hex_digit, byte_spelling, digits_spelling, number_spelling, value_front, value_spelling}
use Rattle.csvw_row_keys.specs.Spelling.{cell_spelling, spelling}

-- ---- bytes

hex_same : (a b : ℕ) → a < 16 → b < 16 → hex_digit a ≡ hex_digit b → a ≡ b
hex_same a b p q same = grind arith

pub small : (b : ℕ) → is_escaped b ≡ true → b < 128
small b h = grind arith

whole : (a b : ℕ) → a < 128 → b < 128 → hex_digit (a / 16) ≡ hex_digit (b / 16) → hex_digit (a % 16) ≡ hex_digit (b % 16) → a ≡ b
whole a b p q high low =
    let x = hex_same (a / 16) (b / 16) (omega arith) (omega arith) high in
    let y = hex_same (a % 16) (b % 16) (omega arith) (omega arith) low in
    omega (arith, x, y)

head_same : (x y : ℕ) (xs ys : List ℕ) → x ∷ xs ≡ y ∷ ys → x ≡ y
head_same x y xs ys e = cc

tail_same : (x y : ℕ) (xs ys : List ℕ) → x ∷ xs ≡ y ∷ ys → xs ≡ ys
tail_same x y xs ys e = cc

abbrev byte_by : Bool → ℕ → List ℕ
byte_by p b = if p then 37 ∷ hex_digit (b / 16) ∷ hex_digit (b % 16) ∷ [] else b ∷ []

module _ (a b : ℕ) (xs ys : List ℕ) where
  by_escape : (p q : Bool) → is_escaped a ≡ p → is_escaped b ≡ q → byte_by p a ++ xs ≡ byte_by q b ++ ys → (a ≡ b) × (xs ≡ ys)
  by_escape true true p q e =
      let first = tail_same _ _ _ _ e in
      let second = tail_same _ _ _ _ first in
      (whole a b (small a p) (small b q) (head_same _ _ _ _ first) (head_same _ _ _ _ second), tail_same _ _ _ _ second)
  by_escape true false p q e = absurd (false≢true (sym q ∙ ap is_escaped (sym (head_same _ _ _ _ e))))
  by_escape false true p q e = absurd (false≢true (sym p ∙ ap is_escaped (head_same _ _ _ _ e)))
  by_escape false false p q e = (head_same _ _ _ _ e, tail_same _ _ _ _ e)

  bytes_apart : byte_spelling a ++ xs ≡ byte_spelling b ++ ys → (a ≡ b) × (xs ≡ ys)
  bytes_apart e = by_escape (is_escaped a) (is_escaped b) refl refl e

-- no byte is spelled by the end of a value
module _ (b : ℕ) (xs ys : List ℕ) where
  ends_by : (p : Bool) → is_escaped b ≡ p → 59 ∷ xs ≡ byte_by p b ++ ys → ⊥
  ends_by true p e = let h = head_same _ _ _ _ e in omega (arith, h)
  ends_by false p e = false≢true (sym p ∙ ap is_escaped (sym (head_same _ _ _ _ e)))

  goes_on : 59 ∷ xs ≡ byte_spelling b ++ ys → ⊥
  goes_on e = ends_by (is_escaped b) refl e

-- ---- texts

texts_apart : (t u xs ys : List ℕ) → flat_map byte_spelling t ++ 59 ∷ xs ≡ flat_map byte_spelling u ++ 59 ∷ ys → (t ≡ u) × (xs ≡ ys)
texts_apart [] [] xs ys e = (refl, tail_same _ _ _ _ e)
texts_apart [] (b ∷ u) xs ys e = absurd (goes_on b xs (flat_map byte_spelling u ++ 59 ∷ ys) (e ∙ append_assoc (byte_spelling b) (flat_map byte_spelling u) (59 ∷ ys)))
texts_apart (a ∷ t) [] xs ys e = absurd (goes_on a ys (flat_map byte_spelling t ++ 59 ∷ xs) (sym e ∙ append_assoc (byte_spelling a) (flat_map byte_spelling t) (59 ∷ xs)))
texts_apart (a ∷ t) (b ∷ u) xs ys e =
    let first = bytes_apart a b (flat_map byte_spelling t ++ 59 ∷ xs) (flat_map byte_spelling u ++ 59 ∷ ys)
    (sym (append_assoc (byte_spelling a) (flat_map byte_spelling t) (59 ∷ xs)) ∙ e ∙ append_assoc (byte_spelling b) (flat_map byte_spelling u) (59 ∷ ys)) in
    let rest = texts_apart t u xs ys first.1 in
    (ap (λ c. c ∷ t) first.0 ∙ ap (λ v. b ∷ v) rest.0, rest.1)

-- ---- numbers

digits_apart : (ds es xs ys : List ℕ) → AllBelowBase 10 ds → AllBelowBase 10 es
    → map (λ d. 48 + d) ds ++ 59 ∷ xs ≡ map (λ d. 48 + d) es ++ 59 ∷ ys → (ds ≡ es) × (xs ≡ ys)
digits_apart [] [] xs ys p q e = (refl, tail_same _ _ _ _ e)
digits_apart [] (d ∷ es) xs ys p q e = let h = head_same _ _ _ _ e in absurd (omega (arith, h, q.0))
digits_apart (d ∷ ds) [] xs ys p q e = let h = head_same _ _ _ _ e in absurd (omega (arith, h, p.0))
digits_apart (d ∷ ds) (f ∷ es) xs ys p q e =
    let h = head_same _ _ _ _ e in
    let one : d ≡ f = omega (arith, h) in
    let rest = digits_apart ds es xs ys p.1 q.1 (tail_same _ _ _ _ e) in
    (ap (λ c. c ∷ ds) one ∙ ap (λ v. f ∷ v) rest.0, rest.1)

naturals_apart : (m n : ℕ) (xs ys : List ℕ) → digits_spelling m ++ 59 ∷ xs ≡ digits_spelling n ++ 59 ∷ ys → (m ≡ n) × (xs ≡ ys)
naturals_apart m n xs ys e =
    let parts = digits_apart (digits_of 10 m) (digits_of 10 n) xs ys (all_below_base_digits_of 10 m (omega arith)) (all_below_base_digits_of 10 n (omega arith)) e in
    (same_from_digits_of 10 m n (omega arith) parts.0, parts.1)

no_sign : (ds xs ys : List ℕ) → map (λ d. 48 + d) ds ++ 59 ∷ xs ≡ 45 ∷ ys → ⊥
no_sign [] xs ys e = let h = head_same _ _ _ _ e in omega (arith, h)
no_sign (d ∷ ds) xs ys e = let h = head_same _ _ _ _ e in omega (arith, h)

numbers_apart : (a b : ℤ) (xs ys : List ℕ) → number_spelling a ++ 59 ∷ xs ≡ number_spelling b ++ 59 ∷ ys → (a ≡ b) × (xs ≡ ys)
numbers_apart (pos m) (pos n) xs ys e = let parts = naturals_apart m n xs ys e in (ap pos parts.0, parts.1)
numbers_apart (pos m) (negsuc n) xs ys e = absurd (no_sign (digits_of 10 m) xs _ e)
numbers_apart (negsuc m) (pos n) xs ys e = absurd (no_sign (digits_of 10 n) ys _ (sym e))
numbers_apart (negsuc m) (negsuc n) xs ys e =
    let parts = naturals_apart (suc m) (suc n) xs ys (tail_same _ _ _ _ e) in
    let one : m ≡ n = omega (arith, parts.0) in
    (ap negsuc one, parts.1)

-- ---- values

-- a value, and what follows it
ended : (front xs : List ℕ) → (front ++ codes ";") ++ xs ≡ front ++ 59 ∷ xs
ended front xs = append_assoc front (59 ∷ []) xs

abbrev letter : Value → ℕ
letter (Text t) = 115
letter (Truth p) = 98
letter (Number a) = 110
letter (Day a) = 100
letter (Moment a) = 109

abbrev after_letter : Value → List ℕ
after_letter (Text t) = flat_map byte_spelling t
after_letter (Truth true) = codes "1"
after_letter (Truth false) = codes "0"
after_letter (Number a) = number_spelling a
after_letter (Day a) = number_spelling a
after_letter (Moment a) = number_spelling a

begins : (v : Value) → value_front v ≡ letter v ∷ after_letter v
begins (Text t) = refl
begins (Truth true) = refl
begins (Truth false) = refl
begins (Number a) = refl
begins (Day a) = refl
begins (Moment a) = refl

at_head : (v : Value) (xs : List ℕ) → value_spelling v ++ xs ≡ letter v ∷ ((after_letter v ++ codes ";") ++ xs)
at_head v xs = ap (λ front. (front ++ codes ";") ++ xs) (begins v)

is_letter : (v : Value) → 98 ≤ letter v
is_letter (Text t) = omega arith
is_letter (Truth p) = omega arith
is_letter (Number a) = omega arith
is_letter (Day a) = omega arith
is_letter (Moment a) = omega arith

begins_late : (v : Value) (n : ℕ) (xs ys : List ℕ) → value_spelling v ++ xs ≡ n ∷ ys → 98 ≤ n
begins_late v n xs ys e = subst (λ k. 98 ≤ k) (head_same _ _ _ _ (sym (at_head v xs) ∙ e)) (is_letter v)

module _ (xs ys : List ℕ) where
  abbrev Follow : Value → Value → Type 0
  Follow v w = value_spelling v ++ xs ≡ value_spelling w ++ ys

  letters_same : (v w : Value) → Follow v w → letter v ≡ letter w
  letters_same v w e = head_same _ _ _ _ (sym (at_head v xs) ∙ e ∙ at_head w ys)

  same_text : (t u : List ℕ) → Follow (Text t) (Text u) → (t ≡ u) × (xs ≡ ys)
  same_text t u e =
      texts_apart t u xs ys (sym (ended (flat_map byte_spelling t) xs) ∙ tail_same _ _ _ _ e ∙ ended (flat_map byte_spelling u) ys)

  same_number : (a b : ℤ) (m n : ℕ) → m ∷ ((number_spelling a ++ codes ";") ++ xs) ≡ n ∷ ((number_spelling b ++ codes ";") ++ ys) → (a ≡ b) × (xs ≡ ys)
  same_number a b m n e =
      numbers_apart a b xs ys (sym (ended (number_spelling a) xs) ∙ tail_same _ _ _ _ e ∙ ended (number_spelling b) ys)

  same_truth : (p q : Bool) → Follow (Truth p) (Truth q) → (p ≡ q) × (xs ≡ ys)
  same_truth true true e = (refl, tail_same _ _ _ _ (tail_same _ _ _ _ (tail_same _ _ _ _ e)))
  same_truth true false e = let h = head_same _ _ _ _ (tail_same _ _ _ _ e) in absurd (omega (arith, h))
  same_truth false true e = let h = head_same _ _ _ _ (tail_same _ _ _ _ e) in absurd (omega (arith, h))
  same_truth false false e = (refl, tail_same _ _ _ _ (tail_same _ _ _ _ (tail_same _ _ _ _ e)))

  abbrev Same : Value → Value → Type 0
  Same v w = Follow v w → (v ≡ w) × (xs ≡ ys)

  values_apart : (v w : Value) → Same v w
  values_apart (Text t) (Text u) e = let parts = same_text t u e in (ap (λ (a : List ℕ). Text a) parts.0, parts.1)
  values_apart (Text t) (Truth q) e = let h = letters_same (Text t) (Truth q) e in absurd (omega (arith, h))
  values_apart (Text t) (Number b) e = let h = letters_same (Text t) (Number b) e in absurd (omega (arith, h))
  values_apart (Text t) (Day b) e = let h = letters_same (Text t) (Day b) e in absurd (omega (arith, h))
  values_apart (Text t) (Moment b) e = let h = letters_same (Text t) (Moment b) e in absurd (omega (arith, h))
  values_apart (Truth p) (Text u) e = let h = letters_same (Truth p) (Text u) e in absurd (omega (arith, h))
  values_apart (Truth p) (Truth q) e = let parts = same_truth p q e in (ap Truth parts.0, parts.1)
  values_apart (Truth p) (Number b) e = let h = letters_same (Truth p) (Number b) e in absurd (omega (arith, h))
  values_apart (Truth p) (Day b) e = let h = letters_same (Truth p) (Day b) e in absurd (omega (arith, h))
  values_apart (Truth p) (Moment b) e = let h = letters_same (Truth p) (Moment b) e in absurd (omega (arith, h))
  values_apart (Number a) (Text u) e = let h = letters_same (Number a) (Text u) e in absurd (omega (arith, h))
  values_apart (Number a) (Truth q) e = let h = letters_same (Number a) (Truth q) e in absurd (omega (arith, h))
  values_apart (Number a) (Number b) e = let parts = same_number a b _ _ e in (ap Number parts.0, parts.1)
  values_apart (Number a) (Day b) e = let h = letters_same (Number a) (Day b) e in absurd (omega (arith, h))
  values_apart (Number a) (Moment b) e = let h = letters_same (Number a) (Moment b) e in absurd (omega (arith, h))
  values_apart (Day a) (Text u) e = let h = letters_same (Day a) (Text u) e in absurd (omega (arith, h))
  values_apart (Day a) (Truth q) e = let h = letters_same (Day a) (Truth q) e in absurd (omega (arith, h))
  values_apart (Day a) (Number b) e = let h = letters_same (Day a) (Number b) e in absurd (omega (arith, h))
  values_apart (Day a) (Day b) e = let parts = same_number a b _ _ e in (ap Day parts.0, parts.1)
  values_apart (Day a) (Moment b) e = let h = letters_same (Day a) (Moment b) e in absurd (omega (arith, h))
  values_apart (Moment a) (Text u) e = let h = letters_same (Moment a) (Text u) e in absurd (omega (arith, h))
  values_apart (Moment a) (Truth q) e = let h = letters_same (Moment a) (Truth q) e in absurd (omega (arith, h))
  values_apart (Moment a) (Number b) e = let h = letters_same (Moment a) (Number b) e in absurd (omega (arith, h))
  values_apart (Moment a) (Day b) e = let h = letters_same (Moment a) (Day b) e in absurd (omega (arith, h))
  values_apart (Moment a) (Moment b) e = let parts = same_number a b _ _ e in (ap Moment parts.0, parts.1)

lists_apart : (us vs : List Value) (xs ys : List ℕ) → flat_map value_spelling us ++ 93 ∷ xs ≡ flat_map value_spelling vs ++ 93 ∷ ys → (us ≡ vs) × (xs ≡ ys)
lists_apart [] [] xs ys e = (refl, tail_same _ _ _ _ e)
lists_apart [] (v ∷ vs) xs ys e =
    let h = begins_late v 93 (flat_map value_spelling vs ++ 93 ∷ ys) xs (sym (e ∙ append_assoc (value_spelling v) (flat_map value_spelling vs) (93 ∷ ys))) in
    absurd (omega (arith, h))
lists_apart (u ∷ us) [] xs ys e =
    let h = begins_late u 93 (flat_map value_spelling us ++ 93 ∷ xs) ys (sym (append_assoc (value_spelling u) (flat_map value_spelling us) (93 ∷ xs)) ∙ e) in
    absurd (omega (arith, h))
lists_apart (u ∷ us) (v ∷ vs) xs ys e =
    let first = values_apart (flat_map value_spelling us ++ 93 ∷ xs) (flat_map value_spelling vs ++ 93 ∷ ys) u v
    (sym (append_assoc (value_spelling u) (flat_map value_spelling us) (93 ∷ xs)) ∙ e ∙ append_assoc (value_spelling v) (flat_map value_spelling vs) (93 ∷ ys)) in
    let rest = lists_apart us vs xs ys first.1 in
    (ap (λ w. w ∷ us) first.0 ∙ ap (λ ws. v ∷ ws) rest.0, rest.1)

-- ---- cells

bracketed : (vs : List Value) (xs : List ℕ) → (flat_map value_spelling vs ++ codes "]") ++ xs ≡ flat_map value_spelling vs ++ 93 ∷ xs
bracketed vs xs = append_assoc (flat_map value_spelling vs) (93 ∷ []) xs

module _ (xs ys : List ℕ) where
  cells_apart : (c d : KeyCell) → cell_spelling c ++ xs ≡ cell_spelling d ++ ys → (c ≡ d) × (xs ≡ ys)
  cells_apart Null Null e = (refl, tail_same _ _ _ _ e)
  cells_apart Null (One v) e = let h = begins_late v 45 ys xs (sym e) in absurd (omega (arith, h))
  cells_apart Null (Many vs) e = let h = head_same _ _ _ _ e in absurd (omega (arith, h))
  cells_apart (One u) Null e = let h = begins_late u 45 xs ys e in absurd (omega (arith, h))
  cells_apart (One u) (One v) e = let parts = values_apart xs ys u v e in (ap One parts.0, parts.1)
  cells_apart (One u) (Many vs) e = let h = begins_late u 91 xs ((flat_map value_spelling vs ++ codes "]") ++ ys) e in absurd (omega (arith, h))
  cells_apart (Many us) Null e = let h = head_same _ _ _ _ e in absurd (omega (arith, h))
  cells_apart (Many us) (One v) e = let h = begins_late v 91 ys ((flat_map value_spelling us ++ codes "]") ++ xs) (sym e) in absurd (omega (arith, h))
  cells_apart (Many us) (Many vs) e =
      let parts = lists_apart us vs xs ys (sym (bracketed us xs) ∙ tail_same _ _ _ _ e ∙ bracketed vs ys) in
      (ap (λ (ws : List Value). Many ws) parts.0, parts.1)

none_at : (n : ℕ) (xs : List ℕ) → [] ≡ n ∷ xs → ⊥
none_at n xs e = cc

some_cell : (c : KeyCell) (xs : List ℕ) → [] ≡ cell_spelling c ++ xs → ⊥
some_cell Null xs e = cc
some_cell (One v) xs e = none_at _ _ (e ∙ at_head v xs)
some_cell (Many vs) xs e = cc

pub keys_apart : (a b : List KeyCell) → spelling a ≡ spelling b → a ≡ b
keys_apart [] [] e = refl
keys_apart [] (d ∷ b) e = absurd (some_cell d (spelling b) e)
keys_apart (c ∷ a) [] e = absurd (some_cell c (spelling a) (sym e))
keys_apart (c ∷ a) (d ∷ b) e =
    let first = cells_apart (spelling a) (spelling b) c d e in
    ap (λ x. x ∷ a) first.0 ∙ ap (λ k. d ∷ k) (keys_apart a b first.1)

-- ---- keys are equal exactly if they compare as equal

truth_itself : (p : Bool) → equal_values (Truth p) (Truth p) ≡ true
truth_itself true = refl
truth_itself false = refl

same_truths : (p q : Bool) → equal_values (Truth p) (Truth q) ≡ true → p ≡ q
same_truths true true e = refl
same_truths true false e = sym e
same_truths false true e = e
same_truths false false e = refl

value_itself : (v : Value) → equal_values v v ≡ true
value_itself (Text t) = (bytes_decides t t).1 refl
value_itself (Truth p) = truth_itself p
value_itself (Number a) = (signed_Decides a a).1 refl
value_itself (Day a) = (signed_Decides a a).1 refl
value_itself (Moment a) = (signed_Decides a a).1 refl

same_values : (v w : Value) → equal_values v w ≡ true → v ≡ w
same_values (Text t) (Text u) e = ap (λ (a : List ℕ). Text a) ((bytes_decides t u).0 e)
same_values (Text t) (Truth q) e = absurd (false≢true e)
same_values (Text t) (Number b) e = absurd (false≢true e)
same_values (Text t) (Day b) e = absurd (false≢true e)
same_values (Text t) (Moment b) e = absurd (false≢true e)
same_values (Truth p) (Text u) e = absurd (false≢true e)
same_values (Truth p) (Truth q) e = ap Truth (same_truths p q e)
same_values (Truth p) (Number b) e = absurd (false≢true e)
same_values (Truth p) (Day b) e = absurd (false≢true e)
same_values (Truth p) (Moment b) e = absurd (false≢true e)
same_values (Number a) (Text u) e = absurd (false≢true e)
same_values (Number a) (Truth q) e = absurd (false≢true e)
same_values (Number a) (Number b) e = ap Number ((signed_Decides a b).0 e)
same_values (Number a) (Day b) e = absurd (false≢true e)
same_values (Number a) (Moment b) e = absurd (false≢true e)
same_values (Day a) (Text u) e = absurd (false≢true e)
same_values (Day a) (Truth q) e = absurd (false≢true e)
same_values (Day a) (Number b) e = absurd (false≢true e)
same_values (Day a) (Day b) e = ap Day ((signed_Decides a b).0 e)
same_values (Day a) (Moment b) e = absurd (false≢true e)
same_values (Moment a) (Text u) e = absurd (false≢true e)
same_values (Moment a) (Truth q) e = absurd (false≢true e)
same_values (Moment a) (Number b) e = absurd (false≢true e)
same_values (Moment a) (Day b) e = absurd (false≢true e)
same_values (Moment a) (Moment b) e = ap Moment ((signed_Decides a b).0 e)

module _ {X : Type 0} (eq : X → X → Bool) where
  list_itself : ((x : X) → eq x x ≡ true) → (xs : List X) → pointwise eq xs xs ≡ true
  list_itself each [] = refl
  list_itself each (x ∷ xs) = and_from _ _ (each x) (list_itself each xs)

  same_lists : ((x y : X) → eq x y ≡ true → x ≡ y) → (xs ys : List X) → pointwise eq xs ys ≡ true → xs ≡ ys
  same_lists each [] [] e = refl
  same_lists each [] (y ∷ ys) e = absurd (false≢true e)
  same_lists each (x ∷ xs) [] e = absurd (false≢true e)
  same_lists each (x ∷ xs) (y ∷ ys) e =
      let parts = and_parts _ _ e in
      ap (λ z. z ∷ xs) (each x y parts.0) ∙ ap (λ zs. y ∷ zs) (same_lists each xs ys parts.1)

cell_itself : (c : KeyCell) → equal_cells c c ≡ true
cell_itself Null = refl
cell_itself (One v) = value_itself v
cell_itself (Many vs) = list_itself equal_values value_itself vs

same_cells : (c d : KeyCell) → equal_cells c d ≡ true → c ≡ d
same_cells Null Null e = refl
same_cells Null (One v) e = absurd (false≢true e)
same_cells Null (Many vs) e = absurd (false≢true e)
same_cells (One u) Null e = absurd (false≢true e)
same_cells (One u) (One v) e = ap One (same_values u v e)
same_cells (One u) (Many vs) e = absurd (false≢true e)
same_cells (Many us) Null e = absurd (false≢true e)
same_cells (Many us) (One v) e = absurd (false≢true e)
same_cells (Many us) (Many vs) e = ap (λ (ws : List Value). Many ws) (same_lists equal_values same_values us vs e)

pub key_itself : (a b : List KeyCell) → a ≡ b → equal_keys a b ≡ true
key_itself a b e = subst (λ k. equal_keys a k ≡ true) e (list_itself equal_cells cell_itself a)

pub same_keys : (a b : List KeyCell) → equal_keys a b ≡ true → a ≡ b
same_keys a b e = same_lists equal_cells same_cells a b e
