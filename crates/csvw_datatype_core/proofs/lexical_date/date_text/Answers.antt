use Rattle.std.proofs.Common.{ℕ, List, ◌∙◌, sym, subst, FitsSigned}
use mir.Syntax.{w32}
use Rattle.std.proofs.lemmas.Int.{to_z-of_z}
use Rattle.csvw_datatype_core.specs.declared.date.DateFormat.TheVariants.{YearFirst}
use Rattle.csvw_datatype_core.specs.Dates.{ReadsDate}
use Rattle.csvw_datatype_core.proofs.EveryDay.{form_is_date}
use Rattle.csvw_datatype_core.proofs.lexical_date.date_text.Goals as goal

pub returns : goal.returns
returns c =
    let fits : FitsSigned w32 c.args.day = c.ranges.day in
    let same = c.into_string.ensures ∙ simp to_z-of_z at c.in_ok-refill_date.ensures in
    let P : List ℕ → Type 0 = λ text. ReadsDate YearFirst text c.args.day in
    record { form = subst P (sym same) (form_is_date c.args.day c.requires); text = same }
