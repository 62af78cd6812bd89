-- What a scan finds of a text is digits, and digits without the zeros around them are trimmed.
use Rattle.std.proofs.Common.{◌≡◌, ℕ, suc, ◌+◌, ◌-◌, ◌<◌, ◌==◌, ◌&&◌, true, false, Bool, List, [], ◌∷◌, length, take, drop, slice_index, slice_range, arith}
use Rattle.std.proofs.Common.{rules, refl, subst, cond, if◌then◌else◌}
use Rattle.std.specs.Float.Numeral.{digits_end, digits_len, scan_numeral}
use Rattle.std.specs.Str.Parse.{AllDigits}
use Rattle.std.specs.Char.{digit_value, is_ascii_digit}
use Rattle.std.proofs.lemmas.Grind.{common_steps}
use Rattle.csvw_double.specs.Digits.{after_zeros, before_zeros, is_empty}
use Rattle.csvw_double.proofs.FormLemmas.{after_digits, before_digits}
use Rattle.csvw_double.proofs.StayLemmas.{IsTrimmed, begins}

pub digit_is : (c : ℕ) → is_ascii_digit c ≡ true → digit_value c < 10
digit_is c is = grind (arith, common_steps)

-- the digits at the front of a list
front : (b : Bool) (c : ℕ) (n : ℕ) (cs : List ℕ) → is_ascii_digit c ≡ b → AllDigits 10 (take n cs) → AllDigits 10 (take (cond b (1 + n) 0) (c ∷ cs))
front true c n cs is are =
    let e : suc n ≡ 1 + n = omega arith in
    subst (λ m. AllDigits 10 (take m (c ∷ cs))) e (digit_is c is, are)
front false c n cs is are = search rules

fronts : (cs : List ℕ) → AllDigits 10 (take (digits_len cs) cs)
fronts [] = search rules
fronts (c ∷ cs) = front (is_ascii_digit c) c (digits_len cs) cs refl (fronts cs)

sliced : (bs : List ℕ) (i : ℕ) → AllDigits 10 (slice_range bs i (digits_end bs i))
sliced bs i =
    let e : digits_len (drop i bs) ≡ i + digits_len (drop i bs) - i = omega arith in
    subst (λ n. AllDigits 10 (take n (drop i bs))) e (fronts (drop i bs))

pub scanned_whole : (bs : List ℕ) → AllDigits 10 (scan_numeral bs).whole
unfolding scan_numeral
scanned_whole bs = sliced bs 0

pub scanned_fraction : (bs : List ℕ) → AllDigits 10 (scan_numeral bs).fraction
unfolding scan_numeral
scanned_fraction bs = go (slice_index bs (digits_end bs 0) == 46)
  where
    go : (b : Bool) → AllDigits 10 (if b then slice_range bs (digits_end bs 0 + 1) (if b then digits_end bs (digits_end bs 0 + 1) else digits_end bs 0) else [])
    go true = sliced bs (digits_end bs 0 + 1)
    go false = search rules

-- what follows the zeros at the start doesn't begin with one
pub after_begins : (ds : List ℕ) → begins (after_zeros ds) ≡ false
after_begins [] = refl
after_begins (c ∷ cs) = go (c == 48) refl (after_begins cs)
  where
    go : (b : Bool) → (c == 48) ≡ b → begins (after_zeros cs) ≡ false → begins (if b then after_zeros cs else c ∷ cs) ≡ false
    go true is rest = rest
    go false is rest = is

before_begins : (ds : List ℕ) → begins ds ≡ false → begins (before_zeros ds) ≡ false
before_begins [] first = refl
before_begins (c ∷ cs) first = rw first first

again : (ds : List ℕ) → before_zeros (before_zeros ds) ≡ before_zeros ds
again [] = refl
again (c ∷ cs) = go (c == 48 && is_empty (before_zeros cs)) refl (again cs)
  where
    go : (b : Bool) → (c == 48 && is_empty (before_zeros cs)) ≡ b → before_zeros (before_zeros cs) ≡ before_zeros cs
        → before_zeros (if b then [] else c ∷ before_zeros cs) ≡ (if b then [] else c ∷ before_zeros cs)
    go true is rest = refl
    go false is rest = rw (rest, is) refl

pub trimmed : (ds : List ℕ) → AllDigits 10 ds → 0 < length (before_zeros (after_zeros ds)) → IsTrimmed (before_zeros (after_zeros ds))
trimmed ds are some = record {
  are = before_digits (after_zeros ds) (after_digits ds are);
  some = some;
  first = before_begins (after_zeros ds) (after_begins ds);
  last = again (after_zeros ds);
}
