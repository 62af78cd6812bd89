use Rattle.std.proofs.Common.{subst, refl, ℤ}
use Rattle.csvw_datatype_core.specs.declared.moment.MomentFormat.{MomentFormat}
use Rattle.csvw_datatype_core.specs.Moments.{ReadsMoment}
use Rattle.csvw_datatype.proofs.read.read_date_time.Goals as goal

pub returns-in-None : goal.returns-in-None
returns-in-None c =
    let P : MomentFormat → Type 0 = λ f. (moment : ℤ) → ReadsMoment f c.args.text.now moment → ⊥ in
    (subst P c.moment_format.ensures c.in-None.ensures, refl)
