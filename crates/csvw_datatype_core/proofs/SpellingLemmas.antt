-- The digits of a fraction are written after a point in a buffer.
use Rattle.std.proofs.Common.{◌≡◌, ℕ, inr, ◌+◌, ◌*◌, ◌/◌, ◌%◌, ◌^◌, ◌<◌, ◌≤◌, List, [], ◌∷◌, ◌++◌, length, take, set}
use Rattle.std.proofs.Common.{replicate, refl, sym, ap, ◌∙◌, arith, subst}
use Rattle.std.proofs.lemmas.List.{length-set, length-take-le, append_assoc, take_more_set}
use Rattle.csvw_datatype_core.specs.LexicalNumbers.{AppendsFraction, AppendsPart}
use Rattle.csvw_datatype_core.proofs.AsciiLemmas.{AllAscii, appended}
use Rattle.csvw_datatype_core.proofs.ScaledLemmas.{IsScaled, scaled_begins, scaled_step, scaled_ends, digit_below, digits_left}

-- the first bytes of the buffer are the point and digits, of which the rest of the fraction is left
pub record IsSpelling (digits : List ℕ) (len n rest : ℕ) : Type 0 where
  pub long : length digits ≡ 19
  pub within : len ≤ 19
  pub scaled : IsScaled (46 ∷ []) (take len digits) n rest
  pub ascii : AllAscii (take len digits)

pub spelling_begins : (n : ℕ) → 0 < n → n < 10 ^ 18 → IsSpelling (replicate 19 46) 1 n n
unfolding AllAscii
spelling_begins n h l = record { long = refl; within = omega arith; scaled = scaled_begins (46 ∷ []) n h l; ascii = (omega arith, tt) }

pub place_left : (digits : List ℕ) (len n rest : ℕ) → IsSpelling digits len n rest → 0 < rest → len < 19
place_left digits len n rest h p =
    omega (arith, digits_left _ _ _ _ h.scaled p, length-take-le len digits (omega (arith, h.long, h.within)), h.within)

pub spelled_digit : (digits : List ℕ) (len n rest : ℕ) → IsSpelling digits len n rest → 0 < rest → rest / 10 ^ 17 < 10
spelled_digit digits len n rest h p = digit_below _ _ _ _ h.scaled p

pub spelling_step : (digits : List ℕ) (len n rest c : ℕ) → IsSpelling digits len n rest → 0 < rest → c ≡ 48 + rest / 10 ^ 17
    → IsSpelling (set digits len c) (len + 1) n (rest % 10 ^ 17 * 10)
unfolding AllAscii
spelling_step digits len n rest c h p e =
    let place = place_left digits len n rest h p in
    let longer : take (len + 1) (set digits len c) ≡ take len digits ++ (c ∷ []) =
    take_more_set digits len c (omega (arith, h.long, place)) in
    record {
      long = length-set digits len c ∙ h.long;
      within = omega (arith, place);
      scaled = let P : List ℕ → Type 0 = λ out. IsScaled (46 ∷ []) out n (rest % 10 ^ 17 * 10) in subst P (sym longer) (scaled_step _ _ _ _ _ h.scaled p e);
      ascii = let P : List ℕ → Type 0 = λ out. AllAscii out in subst P (sym longer)
          (appended (take len digits) (c ∷ []) h.ascii (omega (arith, e, spelled_digit digits len n rest h p), tt));
    }

behind : (old new bytes : List ℕ) (n : ℕ) → new ≡ old ++ bytes → AppendsFraction (46 ∷ []) bytes n → AppendsFraction (old ++ 46 ∷ []) new n
behind old new bytes n e h = record {
  digits = h.digits;
  appended = e ∙ ap (λ l. old ++ l) h.appended ∙ sym (append_assoc old (46 ∷ []) h.digits);
  are_digits = h.are_digits;
  no_trailing_zero = h.no_trailing_zero;
  value = h.value;
}

pub spelling_ends : (digits old new : List ℕ) (len n rest : ℕ) → IsSpelling digits len n rest → rest ≡ 0 → new ≡ old ++ take len digits
    → AppendsPart old new n
spelling_ends digits old new len n rest h z e = inr (behind old new (take len digits) n e (scaled_ends _ _ _ _ h.scaled z))
