-- The moment is in the years 0001 to 9999.
use mir.Syntax.{w64}
use Rattle.std.proofs.lemmas.Int.{to_z-of_z}
use Rattle.std.proofs.Common.{ℤ, rules, FitsSigned, subst, sym}
use Rattle.csvw_datatype_core.specs.LexicalDates.{IsMomentNumber}
use Rattle.csvw_datatype_core.proofs.StampLemmas.{moment_range}
use Rattle.csvw_datatype_core.proofs.stamp.stamp_parts.Goals as goal

pub returns-clause-moment : goal.returns-clause-moment
returns-clause-moment c =
    let m = c.in_ok-moment.moment in
    let fits : FitsSigned w64 m = search rules in
    let P : ℤ → Type 0 = λ z. IsMomentNumber z in
    subst P (sym (to_z-of_z w64 m fits)) (moment_range c.args.format.moment c.args.text.now m c.in_ok-moment.rest.now c.in_ok-moment.ensures)
