-- The fragment of a row, its place in its source, may be in an IRI as it is.
use Rattle.std.proofs.Common.{◌≡◌, ℕ, zero, suc, ◌/◌, ◌%◌, ◌<◌, Bool, true, false, cond, List, [], ◌∷◌, refl, arith}
use Rattle.std.specs.Prelude.{◌==◌, not}
use Rattle.std.specs.Fmt.{decimal, digits, digits_onto, digit_glyph}
use Rattle.std.proofs.lemmas.Bool.Decides.{nat_tests}
use Rattle.csvw_iri.specs.Safe.{is_forbidden, is_iri}
use Rattle.csvw_triples_rows.specs.StandardTriples.{row_fragment}

digit_raw : (d : ℕ) → d < 10 → not (is_forbidden (digit_glyph false d)) ≡ true
digit_raw d h = grind (arith, nat_tests)

chosen_raw : (b : Bool) (x y : List ℕ) → is_iri x ≡ true → is_iri y ≡ true → is_iri (cond b x y) ≡ true
chosen_raw true x y p q = p
chosen_raw false x y p q = q

onto_raw : (k n : ℕ) (acc : List ℕ) → is_iri acc ≡ true → is_iri (digits_onto k 10 false n acc) ≡ true
onto_raw zero n acc h = h
onto_raw (suc k) n acc h =
    let small : n % 10 < 10 = omega arith in
    let more : is_iri (digit_glyph false (n % 10) ∷ acc) ≡ true = rw (digit_raw (n % 10) small) h in
    chosen_raw (n / 10 == 0) (digit_glyph false (n % 10) ∷ acc) (digits_onto k 10 false (n / 10) (digit_glyph false (n % 10) ∷ acc)) more
    (onto_raw k (n / 10) (digit_glyph false (n % 10) ∷ acc) more)

decimal_raw : (n : ℕ) → is_iri (decimal n) ≡ true
unfolding digits
decimal_raw n = onto_raw 64 n [] refl

pub fragment_raw : (source : ℕ) → is_iri (row_fragment source) ≡ true
fragment_raw source = decimal_raw source
