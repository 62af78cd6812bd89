-- A text is one number, one date and one moment at most.
use Rattle.std.proofs.Common.{◌≡◌, ℕ, ◌*◌, ◌^◌, List, sym, ap, ◌∙◌, cond, Option, Some, None, ℤ, pos, neg_ℤ, length}
use Rattle.csvw_datatype_core.specs.declared.number.NumberRules.{NumberRules}
use Rattle.csvw_datatype_core.specs.declared.number.Mark.{Mark}
use Rattle.csvw_datatype_core.specs.declared.number.Mark.TheVariants.{Plain, Percent, PerMille}
use Rattle.csvw_datatype_core.specs.Step.{begun, run, count_of}
use Rattle.csvw_datatype_core.specs.Numbers.{Parts, IsLawful, ReadsNumber, IsCount, divisor, fraction_digits}
use Rattle.csvw_datatype_core.proofs.Counts.{pow_is_pos}
use Rattle.csvw_datatype_core.proofs.Answer.{IsAnswer, count_answers, cancel, pos_mul}
use Rattle.csvw_datatype_core.proofs.ReadLemmas.{holds_text, signed_is}
use Rattle.std.proofs.Common.{◌<◌, lit≤, ◌+◌, take, drop, ◌+ℤ◌, ◌*ℤ◌}
use Rattle.std.specs.Str.Parse.{digits_value}
use Rattle.csvw_datatype_core.specs.declared.date.DateFormat.{DateFormat}
use Rattle.csvw_datatype_core.specs.declared.date.DateFormat.TheVariants.{YearFirst}
use Rattle.csvw_datatype_core.specs.declared.moment.MomentFormat.{MomentFormat}
use Rattle.csvw_datatype_core.specs.Dates.{day_number, ReadsDate}
use Rattle.csvw_datatype_core.specs.JoinedMoments.{ReadsTime, ReadsJoined}
use Rattle.csvw_datatype_core.proofs.DateLemmas.{some_same, reads_fields}
use Rattle.csvw_datatype_core.proofs.TimeLemmas.{time_again, parts_of}

divisor_pos : (m : Mark) → 0 < divisor m
divisor_pos Plain = lit≤ tt
divisor_pos Percent = lit≤ tt
divisor_pos PerMille = lit≤ tt

counted : (p : Parts) (o : Option ℕ) (n : ℕ) → IsAnswer p o → n < 10 ^ 38 → IsCount p n → o ≡ Some n
counted p None n a l h = absurd (a n l h)
counted p (Some m) n a l h =
    ap Some (cancel m n (10 ^ length (fraction_digits p) * divisor p.mark) (pos_mul _ _ (pow_is_pos _) (divisor_pos p.mark)) (a.1 ∙ sym h))

-- what the pass says is the number
value_is : (rules : NumberRules) (l : IsLawful rules) (cs : List ℕ) (z : ℤ) (r : ReadsNumber rules cs z)
    → (count_of (run rules begun cs) ≡ Some r.count) × (z ≡ cond (run rules begun cs).minus (neg_ℤ (pos r.count)) (pos r.count))
value_is rules l cs z r =
    let h = holds_text rules l cs r.parts r.is_number r.spelled in (
      counted r.parts _ r.count (count_answers rules r.parts _ r.is_number h) r.small r.is_count,
      r.is_value ∙ sym (ap (λ b. cond b (neg_ℤ (pos r.count)) (pos r.count)) h.minus ∙ signed_is r.parts.sign r.count),
    )

pub one_number : (rules : NumberRules) (l : IsLawful rules) (cs : List ℕ) (y z : ℤ) → ReadsNumber rules cs y → ReadsNumber rules cs z → y ≡ z
one_number rules l cs y z r s =
    let a = value_is rules l cs y r in
    let b = value_is rules l cs z s in
    let e : r.count ≡ s.count = cc (a.0, b.0) in
    a.1 ∙ ap (λ n. cond (run rules begun cs).minus (neg_ℤ (pos n)) (pos n)) e ∙ sym b.1

-- a text is one date at most
pub one_date : (f : DateFormat) (text : List ℕ) (a b : ℤ) → ReadsDate f text a → ReadsDate f text b → a ≡ b
one_date f text a b r s =
    let same = some_same (digits_value 10 r.y, digits_value 10 r.m, digits_value 10 r.d)
    (digits_value 10 s.y, digits_value 10 s.m, digits_value 10 s.d) (sym (reads_fields f text a r) ∙ reads_fields f text b s) in
    r.is_value ∙ ap (λ (x : ℕ × ℕ × ℕ). day_number x.0 x.1 x.2) same ∙ sym s.is_value

-- and one time of day
one_time : (f : MomentFormat) (text : List ℕ) (a b : ℕ) → ReadsTime f text a → ReadsTime f text b → a ≡ b
one_time f text a b r s =
    let same = some_same (digits_value 10 r.h, digits_value 10 r.m, digits_value 10 r.s)
    (digits_value 10 s.h, digits_value 10 s.m, digits_value 10 s.s) (sym (time_again f text a r) ∙ time_again f text b s) in
    r.is_value ∙ ap (λ (x : ℕ × ℕ × ℕ). x.0 * 3600 + x.1 * 60 + x.2) same ∙ sym s.is_value

-- and one moment
pub one_joined : (f : MomentFormat) (text : List ℕ) (a b : ℤ) → ReadsJoined f text a → ReadsJoined f text b → a ≡ b
one_joined f text a b r s =
    let p = parts_of f text a r in
    let q = parts_of f text b s in
    p.value ∙ ap (λ d. (d *ℤ pos 86_400) +ℤ pos p.second) (one_date YearFirst (take 10 text) p.day q.day p.date q.date)
    ∙ ap (λ n. (q.day *ℤ pos 86_400) +ℤ pos n) (one_time f (drop 10 text) p.second q.second p.time q.time) ∙ sym q.value
