-- The first bytes are the date, and the others the zone.
use mir.Syntax.{w32}
use Rattle.std.proofs.lemmas.Int.{to_z-of_z}
use Rattle.std.proofs.Common.{rules, FitsSigned, ℤ, Some, ap, ◌∙◌, drop, take}
use Rattle.csvw_datatype_core.proofs.DateTimeLemmas.{back_is, front_is}
use Rattle.csvw_datatype_core.proofs.ZonedDateLemmas.{format_found}
use Rattle.csvw_datatype_core.proofs.zoned_date.format_parts.Goals as goal

pub returns-clause-parts : goal.returns-clause-parts
returns-clause-parts c =
    let bs = c.args.bytes.now in
    let fits : FitsSigned w32 c.in_ok-day.day = search rules in
    ap (λ (z : ℤ). Some (z, c.in_ok-minutes.minutes)) (to_z-of_z w32 c.in_ok-day.day fits)
    ∙ format_found c.args.format bs _ _ _ _
    (c.split_at.ensures.front ∙ ap (λ n. take n bs) c.min.ensures ∙ front_is c.date_len.result bs ∙ ap (λ n. take n bs) c.date_len.ensures)
    (c.split_at.ensures.back ∙ ap (λ n. drop n bs) c.min.ensures ∙ back_is c.date_len.result bs ∙ ap (λ n. drop n bs) c.date_len.ensures)
    c.in_ok-day.ensures.day c.in_ok-minutes.ensures.zone
