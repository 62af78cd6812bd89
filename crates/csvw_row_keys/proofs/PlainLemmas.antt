-- No key is spelled with a special byte.
use Rattle.std.proofs.Common.{◌≡◌, ℕ, suc, ◌+◌, ◌<◌, ◌/◌, ◌%◌, List, [], ◌∷◌, ◌++◌, ◌||◌, Bool, true, false, refl, ◌∙◌, codes, flat_map, map, ℤ, pos, negsuc, arith, if◌then◌else◌}
use Rattle.std.specs.Int.Digits.{AllBelowBase, digits_of}
use Rattle.std.specs.List.{list_any}
use Rattle.std.proofs.lemmas.Int.Digits.{all_below_base_digits_of}
use Rattle.std.proofs.lemmas.List.Folds.{list_any-append}
use Rattle.csvw_datatype.specs.declared.value.Value.{Value}
use Rattle.csvw_datatype.specs.declared.value.Value.TheVariants.{Text, Truth, Number, Day, Moment}
use Rattle.csvw_keys.specs.declared.key.KeyCell.{KeyCell}
use Rattle.csvw_keys.specs.declared.key.KeyCell.TheVariants.{Null, One, Many}
use Rattle.csvw_row_keys.specs.Spelling.{is_escaped, hex_digit, byte_spelling, number_spelling, value_front, value_spelling}
use Rattle.csvw_row_keys.specs.Spelling.{cell_spelling, spelling}
use Rattle.csvw_row_keys.specs.SpellingLaws.{is_special}
use Rattle.csvw_row_keys.proofs.SpellingLemmas.{small}

abbrev IsPlain : List ℕ → Type 0
IsPlain bytes = list_any is_special bytes ≡ false

neither : (a b : Bool) → a ≡ false → b ≡ false → (a || b) ≡ false
neither true b e f = e
neither false b e f = f

joined : (xs ys : List ℕ) → IsPlain xs → IsPlain ys → IsPlain (xs ++ ys)
joined xs ys p q = list_any-append is_special xs ys ∙ neither _ _ p q

all_joined : {X : Type 0} (f : X → List ℕ) → ((x : X) → IsPlain (f x)) → (xs : List X) → IsPlain (flat_map f xs)
all_joined f each [] = refl
all_joined f each (x ∷ xs) = joined (f x) (flat_map f xs) (each x) (all_joined f each xs)

hex_plain : (n : ℕ) → n < 16 → is_special (hex_digit n) ≡ false
hex_plain n h = grind arith

unescaped : (b : ℕ) → is_escaped b ≡ false → is_special b ≡ false
unescaped b h = grind arith

digit_plain : (d : ℕ) → d < 10 → is_special (48 + d) ≡ false
digit_plain d h = grind arith

byte_by : (b : ℕ) (p : Bool) → is_escaped b ≡ p → IsPlain (if p then 37 ∷ hex_digit (b / 16) ∷ hex_digit (b % 16) ∷ [] else b ∷ [])
byte_by b true p =
    let lt = small b p in
    neither _ _ refl (neither _ _ (hex_plain (b / 16) (omega (arith, lt))) (neither _ _ (hex_plain (b % 16) (omega (arith, lt))) refl))
byte_by b false p = neither _ _ (unescaped b p) refl

text_plain : (text : List ℕ) → IsPlain (flat_map byte_spelling text)
text_plain text = all_joined byte_spelling (λ b. byte_by b (is_escaped b) refl) text

digits_plain : (ds : List ℕ) → AllBelowBase 10 ds → IsPlain (map (λ d. 48 + d) ds)
digits_plain [] all = refl
digits_plain (d ∷ ds) all = neither _ _ (digit_plain d all.0) (digits_plain ds all.1)

number_plain : (a : ℤ) → IsPlain (number_spelling a)
number_plain (pos n) = digits_plain (digits_of 10 n) (all_below_base_digits_of 10 n (omega arith))
number_plain (negsuc n) = digits_plain (digits_of 10 (suc n)) (all_below_base_digits_of 10 (suc n) (omega arith))

value_plain : (v : Value) → IsPlain (value_front v)
value_plain (Text t) = text_plain t
value_plain (Truth true) = refl
value_plain (Truth false) = refl
value_plain (Number a) = number_plain a
value_plain (Day a) = number_plain a
value_plain (Moment a) = number_plain a

ended_plain : (v : Value) → IsPlain (value_spelling v)
ended_plain v = joined (value_front v) (codes ";") (value_plain v) refl

cell_plain : (c : KeyCell) → IsPlain (cell_spelling c)
cell_plain Null = refl
cell_plain (One v) = ended_plain v
cell_plain (Many vs) = joined (flat_map value_spelling vs) (codes "]") (all_joined value_spelling ended_plain vs) refl

pub key_plain : (key : List KeyCell) → list_any is_special (spelling key) ≡ false
key_plain key = all_joined cell_spelling cell_plain key
