use Rattle.std.proofs.Common.{sym, subst, Option, ℕ, MatchOption}
use Rattle.csvw_datatype_core.specs.JoinedMoments.{ReadsTime}
use Rattle.csvw_datatype_core.proofs.TimeLemmas.{no_time_fields, time_answer}
use Rattle.csvw_datatype_core.proofs.moment.read_time.Goals as goal

pub returns-in_err-hour : goal.returns-in_err-hour
returns-in_err-hour c =
    let P : Option ℕ → Type 0 =
    λ o. MatchOption o ((second : ℕ) → ReadsTime c.args.format c.args.bytes.now second → ⊥) (ReadsTime c.args.format c.args.bytes.now) in
    subst P (sym c.from_residual.ensures) (no_time_fields c.args.format c.args.bytes.now (sym c.in_err-hour.ensures))

pub returns : goal.returns
returns c =
    time_answer c.args.format c.args.bytes.now c.in_ok-hour.hour c.in_ok-hour.minute c.in_ok-hour.second c.second_of_day.result
    (sym c.in_ok-hour.ensures) c.second_of_day.ensures
