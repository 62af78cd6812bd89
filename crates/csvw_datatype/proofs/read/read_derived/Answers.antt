-- A number outside the range of its type.
use Rattle.std.proofs.Common.{◌≡◌, ◌↔◌, subst, refl, inr, ℤ, Bool, false, rules, FitsSigned, IsTrue}
use mir.Syntax.{w128}
use Rattle.std.proofs.lemmas.Int.{to_z-of_z}
use Rattle.csvw_datatype.specs.Widths.{IsInWidth}
use Rattle.csvw_datatype.proofs.read.read_derived.Goals as goal

outside : (b : Bool) → b ≡ false → IsTrue b → ⊥
outside b e h = cc

pub returns-else-is_in_width : goal.returns-else-is_in_width
returns-else-is_in_width c =
    let fits : FitsSigned w128 c.in-Ok.number = search rules in
    let Q : ℤ → Type 0 = λ z. IsTrue c.is_in_width.result ↔ IsInWidth c.args.width z in
    let test = subst Q (to_z-of_z w128 c.in-Ok.number fits) c.is_in_width.ensures in
    inr (c.in-Ok.number, c.in-Ok.ensures, (λ w. outside c.is_in_width.result c.if-is_in_width.false (test.1 w)), refl)
