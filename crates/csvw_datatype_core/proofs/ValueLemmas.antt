-- The functions return the values of texts.
use Rattle.std.proofs.Common.{◌≡◌, ℕ, ◌+◌, ◌*◌, List, refl, true, false, cond, Bool, Option, Some, None, ℤ, MatchOption, arith, take}
use Rattle.std.proofs.Common.{drop, take-append-drop}
use Rattle.std.proofs.lemmas.Bool.Decides.{nat_tests}
use Rattle.csvw_datatype_core.specs.declared.number.NumberRules.{NumberRules}
use Rattle.csvw_datatype_core.specs.declared.date.DateFormat.{DateFormat}
use Rattle.csvw_datatype_core.specs.declared.date.DateFormat.TheVariants.{YearFirst}
use Rattle.csvw_datatype_core.specs.declared.moment.MomentFormat.{MomentFormat}
use Rattle.csvw_datatype_core.specs.Scan.{ends}
use Rattle.csvw_datatype_core.specs.Step.{begun, run, count_of}
use Rattle.csvw_datatype_core.specs.Numbers.{IsLawful, ReadsNumber}
use Rattle.csvw_datatype_core.specs.Dates.{IsDay, day_number, ReadsDate}
use Rattle.csvw_datatype_core.specs.JoinedMoments.{ReadsTime, ReadsJoined}
use Rattle.csvw_datatype_core.specs.Fields.{date_fields}
use Rattle.csvw_datatype_core.specs.TimeFields.{IsTimeOfDay, time_fields}
use Rattle.csvw_datatype_core.specs.Values.{signed_count, number_value, is_day, day_of, date_value, is_time_of_day, second_of, together, joined_value}
use Rattle.csvw_datatype_core.proofs.ReadLemmas.{spells_nothing, reads_nothing, reads}
use Rattle.csvw_datatype_core.proofs.DateLemmas.{no_fields, day_answer}
use Rattle.csvw_datatype_core.proofs.TimeLemmas.{no_time_fields, time_answer, no_date, no_time_of_day, moment_read}

-- the number is given, and it is the text's; or none is, and the text is none
abbrev IsNumberGiven : NumberRules → List ℕ → Option ℤ → Type 0
IsNumberGiven rules cs o = MatchOption o ((z : ℤ) → ReadsNumber rules cs z → ⊥) (ReadsNumber rules cs)

abbrev IsDateGiven : DateFormat → List ℕ → Option ℤ → Type 0
IsDateGiven f text o = MatchOption o ((day : ℤ) → ReadsDate f text day → ⊥) (ReadsDate f text)

abbrev IsTimeGiven : MomentFormat → List ℕ → Option ℕ → Type 0
IsTimeGiven f text o = MatchOption o ((second : ℕ) → ReadsTime f text second → ⊥) (ReadsTime f text)

abbrev IsJoinedGiven : MomentFormat → List ℕ → Option ℤ → Type 0
IsJoinedGiven f text o = MatchOption o ((moment : ℤ) → ReadsJoined f text moment → ⊥) (ReadsJoined f text)

scan_given : (rules : NumberRules) (l : IsLawful rules) (cs : List ℕ) (b : Bool) (o : Option ℕ) → ends (run rules begun cs).place ≡ b
    → count_of (run rules begun cs) ≡ o → IsNumberGiven rules cs (cond b (signed_count (run rules begun cs).minus o) None)
scan_given rules l cs false o h c = λ z r. spells_nothing rules l cs h (record { parts = r.parts; is_number = r.is_number; spelled = r.spelled })
scan_given rules l cs true None h c = reads_nothing rules l cs c
scan_given rules l cs true (Some n) h c = reads rules l cs n _ h c refl

pub number_given : (rules : NumberRules) (cs : List ℕ) → IsLawful rules → IsNumberGiven rules cs (number_value rules cs)
unfolding number_value
number_given rules cs l = scan_given rules l cs _ _ refl refl

day_tested : (y m d : ℕ) → is_day y m d ≡ true → IsDay y m d
day_tested y m d h = grind (arith, nat_tests)

no_day_tested : (y m d : ℕ) → is_day y m d ≡ false → IsDay y m d → ⊥
no_day_tested y m d h is = grind (arith, nat_tests)

-- a value that a test lets through
tested : {A : Type 0} (b : Bool) (P : Type 0) (a : A) → (b ≡ true → P) → (b ≡ false → P → ⊥)
    → MatchOption (cond b (Some a) None) (P → ⊥) (λ n. P × (n ≡ a))
tested true P a holds fails = (holds refl, refl)
tested false P a holds fails = fails refl

day_given : (f : DateFormat) (text : List ℕ) (o : Option (ℕ × ℕ × ℕ)) → date_fields f text ≡ o → IsDateGiven f text (day_of o)
day_given f text None h = no_fields f text h
day_given f text (Some x) h =
    day_answer f text x.0 x.1 x.2 _ h (tested _ _ (day_number x.0 x.1 x.2) (day_tested x.0 x.1 x.2) (no_day_tested x.0 x.1 x.2))

pub date_given : (f : DateFormat) (text : List ℕ) → IsDateGiven f text (date_value f text)
unfolding date_value
date_given f text = day_given f text _ refl

pub time_tested : (h m s : ℕ) → is_time_of_day h m s ≡ true → IsTimeOfDay h m s
time_tested h m s is = grind (arith, nat_tests)

pub no_time_tested : (h m s : ℕ) → is_time_of_day h m s ≡ false → IsTimeOfDay h m s → ⊥
no_time_tested h m s never is = grind (arith, nat_tests)

time_given : (f : MomentFormat) (text : List ℕ) (o : Option (ℕ × ℕ × ℕ)) → time_fields f text ≡ o → IsTimeGiven f text (second_of o)
time_given f text None h = no_time_fields f text h
time_given f text (Some x) h =
    time_answer f text x.0 x.1 x.2 _ h
    (tested _ _ (x.0 * 3600 + x.1 * 60 + x.2) (time_tested x.0 x.1 x.2) (no_time_tested x.0 x.1 x.2))

both_given : (f : MomentFormat) (text : List ℕ) (day : Option ℤ) (second : Option ℕ) → IsDateGiven YearFirst (take 10 text) day
    → IsTimeGiven f (drop 10 text) second → IsJoinedGiven f text (together day second)
both_given f text None second d s = no_date f text d
both_given f text (Some day) None d s = no_time_of_day f text s
both_given f text (Some day) (Some second) d s = moment_read f text day second _ (take-append-drop 10 text) d s refl

pub joined_given : (f : MomentFormat) (text : List ℕ) → IsJoinedGiven f text (joined_value f text)
unfolding joined_value
joined_given f text = both_given f text _ _ (day_given YearFirst (take 10 text) _ refl) (time_given f (drop 10 text) _ refl)
