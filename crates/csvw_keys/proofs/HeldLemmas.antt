-- Stored keys compare as equal exactly if their cells are equal.
use Rattle.std.proofs.Common.{◌≡◌, ℕ, zero, suc, ◌/◌, ◌%◌, ◌^◌, ◌*◌, ◌+◌, ◌++◌, List, length, map, [], ◌∷◌, ℤ, pos, negsuc, Bool, true, false, ◌&&◌}
use Rattle.std.proofs.Common.{refl, sym, ap, ◌∙◌, nat_eq, unsigned_abs}
use Rattle.std.specs.Cmp.{both_tied, unsigned_ties, signed_Decides}
use Rattle.std.specs.Ordering.{is_eq, int_eq, nat_cmp, ordering_then}
use Rattle.std.proofs.lemmas.Bool.{and_from, and_parts, eq-eqb, eqb-true}
use Rattle.std.proofs.lemmas.List.{map-append}
use Rattle.std.proofs.lemmas.Nat.{div-add-mod'}
use Rattle.csvw_annotate.specs.declared.row.Row.{Row}
use Rattle.csvw_datatype.specs.declared.value.Value.{Value}
use Rattle.csvw_datatype.specs.declared.value.Value.TheVariants.{Text, Truth, Number, Day, Moment}
use Rattle.csvw_keys.specs.contracts.held.HeldKeyOrd.TheImpl as key_order
use Rattle.csvw_keys.specs.declared.held_value.HeldValue.{HeldValue}
use Rattle.csvw_keys.specs.declared.held_value.HeldValue.TheVariants.{Cells}
use Rattle.csvw_keys.specs.declared.key.KeyCell.{KeyCell}
use Rattle.csvw_keys.specs.declared.key.KeyCell.TheVariants.{Null, One, Many}
use Rattle.csvw_keys.specs.EqualKeys.{equal_cells, equal_keys, equal_values}
use Rattle.csvw_keys.specs.Held.{held, held_cell, held_cells, held_keys, held_number, held_value, is_null_held, is_null_value}
use Rattle.csvw_keys.specs.Key.{is_null_key, key_of}
use Rattle.csvw_keys.proofs.EqualLemmas.{keys_are, truths_are}
use Rattle.csvw_keys.proofs.TextLemmas.{agree, is_same, on_text, texts_are}

-- ---- numbers

whole : (a b : ℕ) → a / 2 ^ 64 ≡ b / 2 ^ 64 → a % 2 ^ 64 ≡ b % 2 ^ 64 → a ≡ b
whole a b high low = sym (div-add-mod' a (2 ^ 64)) ∙ ap (λ n. n * 2 ^ 64 + a % 2 ^ 64) high ∙ ap (λ n. b / 2 ^ 64 * 2 ^ 64 + n) low ∙ div-add-mod' b (2 ^ 64)

by_halves : (a b : ℕ) → nat_eq a b ≡ (nat_eq (a / 2 ^ 64) (b / 2 ^ 64) && nat_eq (a % 2 ^ 64) (b % 2 ^ 64))
by_halves a b =
    agree _ _
    (λ same. and_from _ _ (eq-eqb _ _ (ap (λ n. n / 2 ^ 64) (eqb-true a b same))) (eq-eqb _ _ (ap (λ n. n % 2 ^ 64) (eqb-true a b same))))
    (λ both. let parts = and_parts _ _ both in eq-eqb a b (whole a b (eqb-true _ _ parts.0) (eqb-true _ _ parts.1)))

halves : (a b : ℕ) → nat_eq a b ≡ is_eq (ordering_then (nat_cmp (a / 2 ^ 64) (b / 2 ^ 64)) (nat_cmp (a % 2 ^ 64) (b % 2 ^ 64)))
halves a b = by_halves a b ∙ both_tied _ _ _ _ (unsigned_ties (a / 2 ^ 64) (b / 2 ^ 64)) (unsigned_ties (a % 2 ^ 64) (b % 2 ^ 64))

naturals : (a b : ℕ) → int_eq (pos a) (pos b) ≡ nat_eq a b
naturals a b =
    agree _ _ (λ same. eq-eqb a b (ap unsigned_abs ((signed_Decides (pos a) (pos b)).0 same)))
    (λ same. (signed_Decides (pos a) (pos b)).1 (ap pos (eqb-true a b same)))

abbrev of_size : ℕ → ℤ
of_size zero = pos zero
of_size (suc n) = negsuc n

negatives : (a b : ℕ) → int_eq (negsuc a) (negsuc b) ≡ nat_eq (suc a) (suc b)
negatives a b =
    agree _ _ (λ same. eq-eqb (suc a) (suc b) (ap unsigned_abs ((signed_Decides (negsuc a) (negsuc b)).0 same)))
    (λ same. (signed_Decides (negsuc a) (negsuc b)).1 (ap of_size (eqb-true (suc a) (suc b) same)))

numbers_are : (a b : ℤ) → int_eq a b ≡ is_same (held_number a) (held_number b)
numbers_are (pos a) (pos b) = naturals a b ∙ halves a b
numbers_are (pos a) (negsuc b) = refl
numbers_are (negsuc a) (pos b) = refl
numbers_are (negsuc a) (negsuc b) = negatives a b ∙ halves (suc a) (suc b)

-- ---- values

number_apart : (n : ℤ) (v : Value) → equal_values (Number n) v ≡ is_same (held_number n) (held_value v)
number_apart (pos n) (Text b) = on_text (λ h. false ≡ is_same (held_number (pos n)) h) b refl refl
number_apart (pos n) (Truth b) = refl
number_apart (pos n) (Number b) = numbers_are (pos n) b
number_apart (pos n) (Day b) = refl
number_apart (pos n) (Moment b) = refl
number_apart (negsuc n) (Text b) = on_text (λ h. false ≡ is_same (held_number (negsuc n)) h) b refl refl
number_apart (negsuc n) (Truth b) = refl
number_apart (negsuc n) (Number b) = numbers_are (negsuc n) b
number_apart (negsuc n) (Day b) = refl
number_apart (negsuc n) (Moment b) = refl

values_are : (a b : Value) → equal_values a b ≡ is_same (held_value a) (held_value b)
values_are (Text a) (Text b) = texts_are a b
values_are (Text a) (Truth b) = on_text (λ h. false ≡ is_same h (held_value (Truth b))) a refl refl
values_are (Text a) (Number (pos b)) = on_text (λ h. false ≡ is_same h (held_number (pos b))) a refl refl
values_are (Text a) (Number (negsuc b)) = on_text (λ h. false ≡ is_same h (held_number (negsuc b))) a refl refl
values_are (Text a) (Day b) = on_text (λ h. false ≡ is_same h (held_value (Day b))) a refl refl
values_are (Text a) (Moment b) = on_text (λ h. false ≡ is_same h (held_value (Moment b))) a refl refl
values_are (Truth a) (Text b) = on_text (λ h. false ≡ is_same (held_value (Truth a)) h) b refl refl
values_are (Truth a) (Truth b) = truths_are a b
values_are (Truth a) (Number (pos b)) = refl
values_are (Truth a) (Number (negsuc b)) = refl
values_are (Truth a) (Day b) = refl
values_are (Truth a) (Moment b) = refl
values_are (Number a) b = number_apart a b
values_are (Day a) (Text b) = on_text (λ h. false ≡ is_same (held_value (Day a)) h) b refl refl
values_are (Day a) (Truth b) = refl
values_are (Day a) (Number (pos b)) = refl
values_are (Day a) (Number (negsuc b)) = refl
values_are (Day a) (Day b) = refl
values_are (Day a) (Moment b) = refl
values_are (Moment a) (Text b) = on_text (λ h. false ≡ is_same (held_value (Moment a)) h) b refl refl
values_are (Moment a) (Truth b) = refl
values_are (Moment a) (Number (pos b)) = refl
values_are (Moment a) (Number (negsuc b)) = refl
values_are (Moment a) (Day b) = refl
values_are (Moment a) (Moment b) = refl

-- ---- cells

abbrev as_cells : List KeyCell → HeldValue
as_cells key = Cells (record { value = key })

null_value : (v : Value) → false ≡ is_same (held_cell Null) (held_value v)
null_value (Text t) = on_text (λ h. false ≡ is_same (held_cell Null) h) t refl refl
null_value (Truth t) = refl
null_value (Number (pos n)) = refl
null_value (Number (negsuc n)) = refl
null_value (Day n) = refl
null_value (Moment n) = refl

value_null : (v : Value) → false ≡ is_same (held_value v) (held_cell Null)
value_null (Text t) = on_text (λ h. false ≡ is_same h (held_cell Null)) t refl refl
value_null (Truth t) = refl
value_null (Number (pos n)) = refl
value_null (Number (negsuc n)) = refl
value_null (Day n) = refl
value_null (Moment n) = refl

value_cells : (v : Value) (key : List KeyCell) → false ≡ is_same (held_value v) (as_cells key)
value_cells (Text t) key = on_text (λ h. false ≡ is_same h (as_cells key)) t refl refl
value_cells (Truth t) key = refl
value_cells (Number (pos n)) key = refl
value_cells (Number (negsuc n)) key = refl
value_cells (Day n) key = refl
value_cells (Moment n) key = refl

cells_value : (key : List KeyCell) (v : Value) → false ≡ is_same (as_cells key) (held_value v)
cells_value key (Text t) = on_text (λ h. false ≡ is_same (as_cells key) h) t refl refl
cells_value key (Truth t) = refl
cells_value key (Number (pos n)) = refl
cells_value key (Number (negsuc n)) = refl
cells_value key (Day n) = refl
cells_value key (Moment n) = refl

and_true : (b : Bool) → (b && true) ≡ b
and_true true = refl
and_true false = refl

and_false : (b : Bool) → (b && false) ≡ false
and_false true = refl
and_false false = refl

singles : (c d : KeyCell) → equal_keys (c ∷ []) (d ∷ []) ≡ is_same (held_cell c) (held_cell d)
singles Null Null = refl
singles Null (One v) = null_value v
singles Null (Many vs) = refl
singles (One v) Null = value_null v
singles (One v) (One w) = and_true (equal_values v w) ∙ values_are v w
singles (One v) (Many ws) = value_cells v (Many ws ∷ [])
singles (Many vs) Null = refl
singles (Many vs) (One w) = cells_value (Many vs ∷ []) w
singles (Many vs) (Many ws) = keys_are (Many vs ∷ []) (Many ws ∷ [])

-- a key of one cell and one of none or several
one_apart : (c : KeyCell) (key : List KeyCell) → equal_keys (c ∷ []) key ≡ false → equal_keys (c ∷ []) key ≡ is_same (held_cell c) (as_cells key)
one_apart Null key unequal = unequal
one_apart (One v) key unequal = unequal ∙ value_cells v key
one_apart (Many vs) key unequal = keys_are (Many vs ∷ []) key

apart_one : (key : List KeyCell) (c : KeyCell) → equal_keys key (c ∷ []) ≡ false → equal_keys key (c ∷ []) ≡ is_same (as_cells key) (held_cell c)
apart_one key Null unequal = unequal
apart_one key (One v) unequal = unequal ∙ cells_value key v
apart_one key (Many vs) unequal = keys_are key (Many vs ∷ [])

cells_are : (a b : List KeyCell) → equal_keys a b ≡ is_same (held_cells a) (held_cells b)
cells_are [] [] = refl
cells_are [] (d ∷ []) = apart_one [] d refl
cells_are [] (d ∷ e ∷ ds) = refl
cells_are (c ∷ []) [] = one_apart c [] refl
cells_are (c ∷ []) (d ∷ []) = singles c d
cells_are (c ∷ []) (d ∷ e ∷ ds) = one_apart c (d ∷ e ∷ ds) (and_false (equal_cells c d))
cells_are (c ∷ b ∷ cs) [] = refl
cells_are (c ∷ b ∷ cs) (d ∷ []) = apart_one (c ∷ b ∷ cs) d (and_false (equal_cells c d))
cells_are (c ∷ b ∷ cs) (d ∷ e ∷ ds) = keys_are (c ∷ b ∷ cs) (d ∷ e ∷ ds)

pub held_are : (a b : List KeyCell) → equal_keys a b ≡ is_eq (key_order.ghosts.cmp (held a) (held b))
held_are a b = cells_are a b

-- ---- rows

pub one_key_more : (columns : List ℕ) (rows : List Row) (row : Row)
    → held_keys columns (rows ++ row ∷ []) ≡ held_keys columns rows ++ held (key_of columns row) ∷ []
one_key_more columns rows row =
    ap (map held) (map-append (key_of columns) rows (row ∷ [])) ∙ map-append held (map (key_of columns) rows) (key_of columns row ∷ [])

no_null : (v : Value) → false ≡ is_null_value (held_value v)
no_null (Text t) = on_text (λ h. false ≡ is_null_value h) t refl refl
no_null (Truth t) = refl
no_null (Number (pos n)) = refl
no_null (Number (negsuc n)) = refl
no_null (Day n) = refl
no_null (Moment n) = refl

pub null_held : (key : List KeyCell) → is_null_key key ≡ is_null_held (held key)
null_held [] = refl
null_held (Null ∷ []) = refl
null_held (One v ∷ []) = no_null v
null_held (Many vs ∷ []) = refl
null_held (c ∷ d ∷ key) = refl

pub several : (key : List KeyCell) → (length key ≡ 1 → ⊥) → held_cells key ≡ as_cells key
several [] apart = refl
several (c ∷ []) apart = absurd (apart refl)
several (c ∷ d ∷ key) apart = refl
