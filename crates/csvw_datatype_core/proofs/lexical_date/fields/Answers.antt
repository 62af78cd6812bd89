use Rattle.std.proofs.Common.{rules, FitsSigned, subst, sym, ap, ◌∙◌, ◌≡◌, ℕ, unsigned_abs}
use mir.Syntax.{w16, w32, w64}
use Rattle.std.proofs.lemmas.Int.{to_z-of_z}
use Rattle.csvw_datatype_core.specs.LexicalDates.{IsFields}
use Rattle.csvw_datatype_core.proofs.LexicalDateLemmas.{fields_of}
use Rattle.csvw_datatype_core.proofs.lexical_date.fields.Goals as goal

pub returns : goal.returns
returns c =
    let fits16 : FitsSigned w16 c.in-Ok.date.year = search rules in
    let fits32 : FitsSigned w32 c.args.day = c.ranges.day in
    let fits64 : FitsSigned w64 c.args.day = search rules in
    let v = simp to_z-of_z at c.in-Ok.ensures.value in
    let e : c.unsigned_abs.result ≡ unsigned_abs c.in-Ok.date.year = c.unsigned_abs.ensures.value ∙ ap unsigned_abs (to_z-of_z w16 c.in-Ok.date.year fits16) in
    let P : ℕ → Type 0 = λ y. IsFields c.args.day y c.in-Ok.date.month c.in-Ok.date.day in
    subst P (sym e) (fields_of c.in-Ok.date c.args.day c.requires v)
