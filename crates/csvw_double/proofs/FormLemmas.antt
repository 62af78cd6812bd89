-- The parts of a number's text: zeros, and digits with a point.
use Rattle.std.proofs.Common.{◌≡◌, ◌≤◌, ◌<◌, ◌^◌, ℕ, zero, suc, ◌==◌, ◌&&◌, true, false, Bool, List, [], ◌∷◌, ◌++◌, replicate, take, arith, rules}
use Rattle.std.proofs.Common.{pos, neg_ℤ, if◌then◌else◌}
use Rattle.std.specs.Float.Numeral.{Parts}
use Rattle.std.specs.Str.Parse.{AllDigits, digits_value}
use Rattle.std.specs.Str.{IsAscii}
use Rattle.std.proofs.lemmas.List.{take-replicate}
use Rattle.std.proofs.lemmas.Str.Ascii.{IsAscii-cons, IsAscii-nil}
use Rattle.std.proofs.lemmas.Str.Parse.{digit_from_value}
use Rattle.csvw_double.specs.Digits.{after_zeros, before_zeros, is_empty}
use Rattle.csvw_double.specs.Doubles.{IsShortExponent, exponent_of}

pub zeros : (n : ℕ) → n ≤ 21 → take {A = ℕ} n (replicate 21 48) ≡ replicate n 48
zeros n small = take-replicate n 21 48 small

pub zeros_ascii : (n : ℕ) → IsAscii (replicate n 48)
zeros_ascii zero = IsAscii-nil
zeros_ascii (suc n) = IsAscii-cons 48 (replicate n 48) (omega arith) (zeros_ascii n)

-- either list
either : (b : Bool) (xs ys : List ℕ) → AllDigits 10 xs → AllDigits 10 ys → AllDigits 10 (if b then xs else ys)
either true xs ys first second = first
either false xs ys first second = second

-- digits without the zeros around them are digits
pub after_digits : (ds : List ℕ) → AllDigits 10 ds → AllDigits 10 (after_zeros ds)
after_digits [] are = are
after_digits (c ∷ cs) are = either (c == 48) (after_zeros cs) (c ∷ cs) (after_digits cs are.1) are

pub before_digits : (ds : List ℕ) → AllDigits 10 ds → AllDigits 10 (before_zeros ds)
before_digits [] are = are
before_digits (c ∷ cs) are = either (c == 48 && is_empty (before_zeros cs)) [] (c ∷ before_zeros cs) (search rules) (are.0, before_digits cs are.1)

pub joined_digits : (xs ys : List ℕ) → AllDigits 10 xs → AllDigits 10 ys → AllDigits 10 (xs ++ ys)
joined_digits [] ys first second = second
joined_digits (c ∷ cs) ys first second = (first.0, joined_digits cs ys first.1 second)

digits_are_ascii : (ds : List ℕ) → AllDigits 10 ds → IsAscii ds
digits_are_ascii [] are = IsAscii-nil
digits_are_ascii (c ∷ cs) are = IsAscii-cons c cs (let range = digit_from_value c are.0 in omega arith) (digits_are_ascii cs are.1)

pub digits_ascii : (xs ys : List ℕ) → AllDigits 10 xs → AllDigits 10 ys → IsAscii (before_zeros (after_zeros (xs ++ ys)))
digits_ascii xs ys first second =
    digits_are_ascii (before_zeros (after_zeros (xs ++ ys))) (before_digits (after_zeros (xs ++ ys)) (after_digits (xs ++ ys)
    (joined_digits xs ys first second)))

pub short_exponent : (p : Parts) → digits_value 10 p.exponent < 10 ^ 18 → IsShortExponent (exponent_of p)
short_exponent p small = go p.exponent_negative
  where
    go : (b : Bool) → IsShortExponent (if b then neg_ℤ (pos (digits_value 10 p.exponent)) else pos (digits_value 10 p.exponent))
    go true = search rules
    go false = search rules
