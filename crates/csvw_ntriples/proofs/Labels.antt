-- Labels.
use Rattle.std.proofs.Common.{◌≡◌, ◌<◌, ◌%◌, ◌/◌, ℕ, zero, suc, List, [], ◌∷◌, refl, arith, true, false, Bool, cond, ◌&&◌}
use Rattle.std.proofs.lemmas.List.Folds.{list_all-append}
use Rattle.std.proofs.lemmas.Bool.Decides.{nat_tests}
use Rattle.std.proofs.lemmas.Str.{encode_ascii}
use Rattle.std.specs.Prelude.{encode_utf8_all, ◌==◌}
use Rattle.std.specs.List.{list_all}
use Rattle.std.specs.Fmt.{decimal, digits, digits_onto, digit_glyph}
use Rattle.csvw_text.specs.Language.{is_letter_or_digit_char}
use Rattle.csvw_ntriples.specs.Written.{label}
use Rattle.csvw_triples_core.specs.declared.origin.Origin.{Origin}
use Rattle.csvw_triples_core.specs.declared.origin.Origin.TheVariants.{Group, Table, Row, Subject, Entry, Note}

digit_plain : (d : ℕ) → d < 10 → is_letter_or_digit_char (digit_glyph false d) ≡ true
digit_plain d h = grind (arith, nat_tests)

chosen_plain : (b : Bool) (x y : List ℕ) → list_all is_letter_or_digit_char x ≡ true → list_all is_letter_or_digit_char y ≡ true
    → list_all is_letter_or_digit_char (cond b x y) ≡ true
chosen_plain true x y p q = p
chosen_plain false x y p q = q

onto_plain : (k n : ℕ) (acc : List ℕ) → list_all is_letter_or_digit_char acc ≡ true → list_all is_letter_or_digit_char (digits_onto k 10 false n acc) ≡ true
onto_plain zero n acc h = h
onto_plain (suc k) n acc h =
    let small : n % 10 < 10 = omega arith in
    let more : list_all is_letter_or_digit_char (digit_glyph false (n % 10) ∷ acc) ≡ true = rw (digit_plain (n % 10) small) h in
    chosen_plain (n / 10 == 0) (digit_glyph false (n % 10) ∷ acc) (digits_onto k 10 false (n / 10) (digit_glyph false (n % 10) ∷ acc)) more
    (onto_plain k (n / 10) (digit_glyph false (n % 10) ∷ acc) more)

pub decimal_plain : (n : ℕ) → list_all is_letter_or_digit_char (decimal n) ≡ true
unfolding digits
decimal_plain n = onto_plain 64 n [] refl

pub label_plain : (o : Origin) → list_all is_letter_or_digit_char (label o) ≡ true
label_plain Group = refl
label_plain (Table t) = decimal_plain t
label_plain (Row t r) = simp (list_all-append, decimal_plain)
label_plain (Subject t r) = simp (list_all-append, decimal_plain)
label_plain (Entry t r c k) = simp (list_all-append, decimal_plain)
label_plain (Note n) = decimal_plain n

plain_below : (c : ℕ) → is_letter_or_digit_char c ≡ true → c < 128
plain_below c h = grind (arith, nat_tests)

and_parts : (a b : Bool) → (a && b) ≡ true → (a ≡ true) × (b ≡ true)
and_parts true b h = (refl, h)
and_parts false b h = cc

encodes_plain : (cs : List ℕ) → list_all is_letter_or_digit_char cs ≡ true → encode_utf8_all cs ≡ cs
encodes_plain [] h = refl
encodes_plain (c ∷ cs) h =
    let both = and_parts (is_letter_or_digit_char c) (list_all is_letter_or_digit_char cs) h in
    rw (encode_ascii c (plain_below c both.0), encodes_plain cs both.1) refl

-- a label is written as it is
pub encodes-label : (o : Origin) → encode_utf8_all (label o) ≡ label o
encodes-label o = encodes_plain (label o) (label_plain o)
