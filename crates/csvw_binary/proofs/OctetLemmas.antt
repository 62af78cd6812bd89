-- The encoding of bytes writes as many octets: how long it is, and how many `=` are at its end.
use Rattle.std.proofs.Common.{◌≡◌, ℕ, zero, suc, ◌<◌, ◌+◌, ◌-◌, ◌==◌, true, false, List, [], ◌∷◌, ◌++◌, length, take, replicate, codes, refl, sym, ap, ◌∙◌, arith, inl, inr}
use Rattle.std.specs.List.{All, ends_with}
use Rattle.std.proofs.lemmas.Bool.{cases_Bool}
use Rattle.std.proofs.lemmas.Bool.Decides.{Decides-eqb}
use Rattle.std.proofs.lemmas.List.{append-nil, append_assoc, append_cancel_right, length-append, length-replicate}
use Rattle.std.proofs.lemmas.List.Elements.{All-head, All-same, All-tail}
use Rattle.std.proofs.lemmas.Slice.Eq.{ends_is}
use Rattle.base64.specs.Engines.{standard}
use Rattle.base64.specs.GeneralPurpose.{encode_of}
use Rattle.base64.specs.Rfc4648.{encode_symbols, padding_len, unpadded_len}
use Rattle.base64.proofs.RoundTrip.{length-encode_symbols}
use Rattle.csvw_binary.specs.Octets.{base64_octets, padding_count}
use Rattle.csvw_binary.proofs.Symbols.{IsPlain, plain_symbols, symbols as standard_symbols}

-- a text of symbols doesn't end with `=`
not_at_end : (symbols front rest : List ℕ) → All IsPlain symbols → symbols ≡ front ++ 61 ∷ rest → ⊥
not_at_end symbols [] rest plain is = cc (All-head IsPlain 61 rest (All-same IsPlain (61 ∷ rest) symbols (sym is) plain))
not_at_end symbols (x ∷ front) rest plain is = not_at_end (front ++ 61 ∷ rest) front rest (All-tail IsPlain x (front ++ 61 ∷ rest) (All-same IsPlain (x ∷ (front ++ 61 ∷ rest)) symbols (sym is) plain)) refl

two_at_end : (front : List ℕ) → ends_with ◌==◌ (front ++ codes "==") (codes "==") ≡ true
two_at_end front = (ends_is Decides-eqb (front ++ codes "==") (codes "==") _ refl).1 front refl

one_at_end : (front : List ℕ) → ends_with ◌==◌ (front ++ codes "=") (codes "=") ≡ true
one_at_end front = (ends_is Decides-eqb (front ++ codes "=") (codes "=") _ refl).1 front refl

-- if a text ended with `==`, what is before its last `=` would end with `=`
not_two : (symbols : List ℕ) → All IsPlain symbols → ends_with ◌==◌ (symbols ++ codes "=") (codes "==") ≡ false
not_two symbols plain = elim (cases_Bool (ends_with ◌==◌ (symbols ++ codes "=") (codes "=="))) [
  | inl ends ↦
      let text : List ℕ = symbols ++ codes "=" in
      let front : List ℕ = take (length text - 2) text in
      let is : text ≡ front ++ codes "==" = (ends_is Decides-eqb text (codes "==") _ refl).0 ends in
      let same : symbols ≡ front ++ codes "=" = append_cancel_right symbols (front ++ codes "=") (codes "=") (is ∙ sym (append_assoc front (codes "=") (codes "="))) in
      absurd (not_at_end symbols front [] plain same)
  | inr other ↦ other
]

none_at_end : (symbols rest : List ℕ) → All IsPlain symbols → ends_with ◌==◌ symbols (61 ∷ rest) ≡ false
none_at_end symbols rest plain = elim (cases_Bool (ends_with ◌==◌ symbols (61 ∷ rest))) [
  | inl ends ↦
      absurd (not_at_end symbols (take (length symbols - length (61 ∷ rest)) symbols) rest plain ((ends_is Decides-eqb symbols (61 ∷ rest) _ refl).0 ends))
  | inr other ↦ other
]

-- as many `=` as were put there
counts : (symbols : List ℕ) (n : ℕ) → n < 3 → All IsPlain symbols → padding_count (symbols ++ replicate n 61) ≡ n
counts symbols zero few plain = rw (append-nil symbols, none_at_end symbols (codes "=") plain, none_at_end symbols [] plain) refl
counts symbols (suc zero) few plain = rw (not_two symbols plain, one_at_end symbols) refl
counts symbols (suc (suc zero)) few plain = rw (two_at_end symbols) refl
counts symbols (suc (suc (suc n))) few plain = absurd (omega (arith, few))

pub base64_octets_of : (bytes : List ℕ) → base64_octets (encode_of standard bytes) ≡ length bytes
base64_octets_of bytes =
    let symbols : List ℕ = encode_symbols standard_symbols bytes in
    let n : ℕ = length bytes in
    let padding : List ℕ = replicate (padding_len n) 61 in
    let count : padding_count (symbols ++ padding) ≡ padding_len n = counts symbols (padding_len n) (omega arith) (plain_symbols bytes) in
    let long : length (symbols ++ padding) ≡ unpadded_len n + padding_len n =
    length-append symbols padding ∙ ap (λ (k : ℕ). k + length padding) (length-encode_symbols standard_symbols bytes)
    ∙ ap (λ (k : ℕ). unpadded_len n + k) (length-replicate (padding_len n) 61) in
    rw (count, long) (omega arith)
