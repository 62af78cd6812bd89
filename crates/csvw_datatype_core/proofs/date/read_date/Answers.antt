use Rattle.std.proofs.Common.{subst, List, ℕ, ℤ, MatchOption}
use Rattle.csvw_datatype_core.specs.Dates.{ReadsDate}
use Rattle.csvw_datatype_core.proofs.date.read_date.Goals as goal

pub returns : goal.returns
returns c =
    let P : List ℕ → Type 0 = λ t. MatchOption c.read_day.result ((day : ℤ) → ReadsDate c.args.format t day → ⊥) (ReadsDate c.args.format t) in
    subst P c.as_bytes.ensures.value c.read_day.ensures
