use Rattle.std.proofs.Common.{sym, subst, Option, ℤ, MatchOption}
use Rattle.csvw_datatype_core.specs.Dates.{ReadsDate}
use Rattle.csvw_datatype_core.proofs.DateLemmas.{fields_small, no_fields, day_answer}
use Rattle.csvw_datatype_core.proofs.date.read_day.Goals as goal

pub returns-in_err-year : goal.returns-in_err-year
returns-in_err-year c =
    let P : Option ℤ → Type 0 = λ o. MatchOption o ((day : ℤ) → ReadsDate c.args.format c.args.bytes.now day → ⊥) (ReadsDate c.args.format c.args.bytes.now) in
    subst P (sym c.from_residual.ensures) (no_fields c.args.format c.args.bytes.now (sym c.in_err-year.ensures))

pub day_of-requires-clause-year : goal.day_of-requires-clause-year
day_of-requires-clause-year c =
    (fields_small c.args.format c.args.bytes.now (c.in_ok-year.year, c.in_ok-year.month, c.in_ok-year.day) (sym c.in_ok-year.ensures)).0

pub day_of-requires-clause-month : goal.day_of-requires-clause-month
day_of-requires-clause-month c =
    (fields_small c.args.format c.args.bytes.now (c.in_ok-year.year, c.in_ok-year.month, c.in_ok-year.day) (sym c.in_ok-year.ensures)).1

pub day_of-requires-clause-day : goal.day_of-requires-clause-day
day_of-requires-clause-day c =
    (fields_small c.args.format c.args.bytes.now (c.in_ok-year.year, c.in_ok-year.month, c.in_ok-year.day) (sym c.in_ok-year.ensures)).2

pub returns : goal.returns
returns c =
    day_answer c.args.format c.args.bytes.now c.in_ok-year.year c.in_ok-year.month c.in_ok-year.day c.day_of.result
    (sym c.in_ok-year.ensures) c.day_of.ensures
