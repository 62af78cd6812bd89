-- The bytes up to the first 19 are the date and the time of day.
use mir.Syntax.{w64}
use Rattle.std.proofs.lemmas.Int.{to_z-of_z}
use Rattle.std.proofs.Common.{rules, FitsSigned, ℤ, ap, ◌∙◌, Some, drop, take}
use Rattle.csvw_datatype_core.proofs.DateTimeLemmas.{back_is, front_is, parts_found}
use Rattle.csvw_datatype_core.proofs.date_time.parts_of.Goals as goal

pub returns-clause-parts : goal.returns-clause-parts
returns-clause-parts c =
    let bs = c.args.bytes.now in
    let fits : FitsSigned w64 c.in_ok-moment.moment = search rules in
    ap (λ (z : ℤ). Some (z, c.trimmed.result.now, c.in_ok-minutes.minutes)) (to_z-of_z w64 c.in_ok-moment.moment fits)
    ∙ parts_found bs _ _ _ _ _ _ _ (c.split_at.ensures.front ∙ ap (λ n. take n bs) c.min.ensures ∙ front_is 19 bs)
    (c.split_at.ensures.back ∙ ap (λ n. drop n bs) c.min.ensures ∙ back_is 19 bs) c.in_ok-moment.ensures.value c.in_ok-digits.ensures.split
    c.in_ok-minutes.ensures.zone c.trimmed.ensures.digits
