use Rattle.std.proofs.Common.{ℕ, List, ◌∙◌, sym, subst, FitsSigned}
use mir.Syntax.{w64}
use Rattle.std.proofs.lemmas.Int.{to_z-of_z}
use Rattle.csvw_datatype_core.specs.declared.moment.MomentFormat.TheVariants.{Seconds}
use Rattle.csvw_datatype_core.specs.Moments.{ReadsMoment}
use Rattle.csvw_datatype_core.proofs.EveryDay.{form_is_moment}
use Rattle.csvw_datatype_core.proofs.lexical_date.moment_text.Goals as goal

pub returns : goal.returns
returns c =
    let fits : FitsSigned w64 c.args.moment = c.ranges.moment in
    let same = c.into_string.ensures ∙ simp to_z-of_z at c.in_ok-refill_moment.ensures in
    let P : List ℕ → Type 0 = λ text. ReadsMoment Seconds text c.args.moment in
    record { form = subst P (sym same) (form_is_moment c.args.moment c.requires); text = same }
