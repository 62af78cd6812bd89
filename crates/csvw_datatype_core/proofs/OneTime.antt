-- The fields of a time of day "HH:mm:ss" are read again. The check doesn't find it by itself: it takes the text apart.
use Rattle.std.proofs.Common.{◌≡◌, ℕ, ◌<◌, ◌+◌, ◌*◌, true, Some, List, [], ◌∷◌, ◌++◌, refl, ap, ◌∙◌, arith}
use Rattle.std.specs.Prelude.{nat_lt}
use Rattle.std.proofs.lemmas.Bool.Decides.{nat_tests}
use Rattle.csvw_datatype_core.specs.declared.time.TimeFormat.TheVariants.{Seconds}
use Rattle.csvw_datatype_core.specs.Fields.{two_at}
use Rattle.csvw_datatype_core.specs.LexicalDates.{two_digits}
use Rattle.csvw_datatype_core.specs.Times.{clock, clock_fields}
use Rattle.csvw_datatype_core.specs.Values.{second_of, time_value}
use Rattle.csvw_datatype_core.proofs.DateLemmas.{two_again}
use Rattle.csvw_datatype_core.proofs.LexicalDateLemmas.{two_are, two_value}

pub two_of : (n : ℕ) (rest : List ℕ) → n < 100 → two_at (two_digits n ++ rest) ≡ Some (n, rest)
two_of n rest low = two_again (two_digits n) rest (two_are n low) ∙ ap (λ v. Some (v, rest)) (two_value n low)

pub fields_again : (h m s : ℕ) → h < 24 → m < 60 → s < 60 → clock_fields Seconds (clock h m s) ≡ Some (h, m, s)
unfolding clock_fields
fields_again h m s hour minute second =
    let a = two_of h (58 ∷ (two_digits m ++ (58 ∷ two_digits s))) (omega (arith, hour)) in
    let b = two_of m (58 ∷ two_digits s) (omega (arith, minute)) in
    let c = two_of s [] (omega (arith, second)) in
    rw (a, b, c) refl

less_true : (n limit : ℕ) → n < limit → nat_lt n limit ≡ true
less_true n limit h = grind (arith, nat_tests)

pub second_again : (h m s : ℕ) → h < 24 → m < 60 → s < 60 → time_value Seconds (clock h m s) ≡ Some (h * 3600 + m * 60 + s)
unfolding time_value
second_again h m s hour minute second =
    ap second_of (fields_again h m s hour minute second) ∙ rw (less_true h 24 hour, less_true m 60 minute, less_true s 60 second) refl
