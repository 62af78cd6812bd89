use Rattle.std.proofs.Common.{ℕ, List, ◌∙◌, sym, subst, FitsSigned}
use mir.Syntax.{w128}
use Rattle.std.specs.Str.{chars}
use Rattle.std.proofs.lemmas.Int.{to_z-of_z}
use Rattle.csvw_datatype_core.specs.LexicalNumbers.{IsLexicalNumber}
use Rattle.csvw_datatype_core.proofs.EveryDay.{form_is_number}
use Rattle.csvw_datatype_core.proofs.lexical_number.number_text.Goals as goal

pub returns : goal.returns
returns c =
    let fits : FitsSigned w128 c.args.number = c.ranges.number in
    let same = c.into_string.ensures ∙ simp to_z-of_z at c.in_ok-refill_number.ensures in
    let P : List ℕ → Type 0 = λ text. IsLexicalNumber (chars text) c.args.number in
    record { form = subst P (sym same) (form_is_number c.args.number c.requires); text = same }
