use Rattle.std.proofs.Common.{subst, refl, ℤ}
use Rattle.csvw_datatype_core.specs.declared.date.DateFormat.{DateFormat}
use Rattle.csvw_datatype_core.specs.Dates.{ReadsDate}
use Rattle.csvw_datatype.proofs.read.read_day.Goals as goal

pub returns-in-None : goal.returns-in-None
returns-in-None c =
    let P : DateFormat → Type 0 = λ f. (day : ℤ) → ReadsDate f c.args.text.now day → ⊥ in
    (subst P c.date_format.ensures c.in-None.ensures, refl)
