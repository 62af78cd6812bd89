-- The text of an offset is read again. The check doesn't find it by itself: it takes the hours and the minutes apart.
use Rattle.std.proofs.Common.{◌≡◌, ℕ, suc, ◌+◌, ◌*◌, ◌/◌, ◌%◌, ◌≤◌, Bool, true, false, if◌then◌else◌, Some, List, [], ◌∷◌}
use Rattle.std.proofs.Common.{refl, sym, ap, arith, ℤ, pos, negsuc, unsigned_abs}
use Rattle.std.specs.Ordering.{int_eq}
use lib.Signed.{lt_z}
use Rattle.std.specs.Prelude.{codes}
use Rattle.std.proofs.lemmas.Bool.Decides.{nat_tests, Decides-int_eq}
use Rattle.std.proofs.lemmas.Int.{ints}
use Rattle.csvw_datatype_core.specs.DateParts.{is_offset, offset_fields}
use Rattle.csvw_datatype_core.specs.DateTimes.{IsOffset, east, minutes_of, west, zone_at}
use Rattle.csvw_datatype_core.specs.LexicalDates.{two_digits}
use Rattle.csvw_datatype_core.specs.Offsets.{hours_and_minutes, offset_text}
use Rattle.csvw_datatype_core.proofs.OneDateTime.{IsRest}
use Rattle.csvw_datatype_core.proofs.OneTime.{two_of}

is_one : (n : ℕ) → n ≤ 840 → is_offset (n / 60) (n % 60) ≡ true
is_one n low = grind (arith, nat_tests)

hours_read : (n : ℕ) → n ≤ 840 → minutes_of (offset_fields (hours_and_minutes n)) ≡ Some n
unfolding offset_fields
hours_read n low =
    let same : n / 60 * 60 + n % 60 ≡ n = omega arith in
    rw (two_of (n / 60) (58 ∷ two_digits (n % 60)) (omega (arith, low)), two_of (n % 60) [] (omega arith))
    (rw (is_one n low) (ap (λ k. Some k) same))

-- what is written, by whether the offset is 0, and whether it is negative
abbrev text_by : Bool → Bool → ℤ → List ℕ
text_by a b minutes = if a then codes "Z" else (if b then 45 else 43) ∷ hours_and_minutes (unsigned_abs minutes)

no_below : (n : ℕ) → lt_z (pos n) (pos 0) ≡ true → ⊥
no_below n e = omega (arith, ints, e)

again_by : (minutes : ℤ) (a b : Bool) → int_eq minutes (pos 0) ≡ a → lt_z minutes (pos 0) ≡ b → IsOffset minutes
    → zone_at (text_by a b minutes) ≡ Some (Some minutes)
again_by minutes true b e f range = ap (λ m. Some (Some m)) (sym ((Decides-int_eq minutes (pos 0)).0 e))
again_by (pos n) false true e f range = absurd (no_below n f)
again_by (negsuc n) false true e f range = ap west (hours_read (suc n) (omega (arith, ints, range.0)))
again_by (pos n) false false e f range = ap east (hours_read n (omega (arith, ints, range.1)))
again_by (negsuc n) false false e f range = absurd (omega (arith, ints, f))

pub offset_again : (minutes : ℤ) → IsOffset minutes → zone_at (offset_text minutes) ≡ Some (Some minutes)
offset_again minutes range = again_by minutes (int_eq minutes (pos 0)) (lt_z minutes (pos 0)) refl refl range

rest_by : (minutes : ℤ) (a b : Bool) → IsRest (text_by a b minutes)
rest_by minutes true b = (refl, refl)
rest_by minutes false true = (refl, refl)
rest_by minutes false false = (refl, refl)

pub offset_is_rest : (minutes : ℤ) → IsRest (offset_text minutes)
offset_is_rest minutes = rest_by minutes (int_eq minutes (pos 0)) (lt_z minutes (pos 0))
