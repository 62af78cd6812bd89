use mir.Syntax.{w32, w64}
use Rattle.std.proofs.lemmas.Int.{to_z-of_z}
use Rattle.std.proofs.Common.{rules, FitsSigned, pos, ◌+ℤ◌, ◌*ℤ◌, subst, sym, ap, ◌∙◌, List, ℕ, ℤ, Option, MatchOption, arith}
use Rattle.std.proofs.Common.{take-append-drop}
use Rattle.csvw_datatype_core.specs.declared.date.DateFormat.TheVariants.{YearFirst}
use Rattle.csvw_datatype_core.specs.Dates.{ReadsDate}
use Rattle.csvw_datatype_core.specs.JoinedMoments.{ReadsJoined, ReadsTime}
use Rattle.csvw_datatype_core.proofs.TimeLemmas.{moment_long, no_date, no_time_of_day, moment_read}
use Rattle.csvw_datatype_core.proofs.moment.moment_at.Goals as goal

pub returns-then-bytes-lt-DATE_LEN : goal.returns-then-bytes-lt-DATE_LEN
returns-then-bytes-lt-DATE_LEN c =
    moment_long c.args.format c.args.bytes.now (omega (arith, c.if-bytes-lt-DATE_LEN.true))

pub returns-in_err-day : goal.returns-in_err-day
returns-in_err-day c =
    let P : Option ℤ → Type 0 =
    λ o. MatchOption o ((moment : ℤ) → ReadsJoined c.args.format c.args.bytes.now moment → ⊥) (ReadsJoined c.args.format c.args.bytes.now) in
    let Q : List ℕ → Type 0 = λ t. (day : ℤ) → ReadsDate YearFirst t day → ⊥ in
    subst P (sym c.from_residual.ensures) (no_date c.args.format c.args.bytes.now
    (subst Q c.split_at.ensures.front c.in_err-day.ensures))

pub returns-in_err-second : goal.returns-in_err-second
returns-in_err-second c =
    let P : Option ℤ → Type 0 =
    λ o. MatchOption o ((moment : ℤ) → ReadsJoined c.args.format c.args.bytes.now moment → ⊥) (ReadsJoined c.args.format c.args.bytes.now) in
    let Q : List ℕ → Type 0 = λ t. (second : ℕ) → ReadsTime c.args.format t second → ⊥ in
    subst P (sym c.from_residual-in_err-second.ensures) (no_time_of_day c.args.format c.args.bytes.now
    (subst Q c.split_at.ensures.back c.in_err-second.ensures))

pub returns : goal.returns
returns c =
    let P : List ℕ → Type 0 = λ t. ReadsDate YearFirst t c.in_ok-day.day in
    let Q : List ℕ → Type 0 = λ t. ReadsTime c.args.format t c.in_ok-second.second in
    let fits : FitsSigned w32 c.in_ok-day.day = search rules in
    let small : FitsSigned w64 c.moment_of.result = search rules in
    let R : ℤ → Type 0 = λ m. ReadsJoined c.args.format c.args.bytes.now m in
    subst R (sym (to_z-of_z w64 c.moment_of.result small))
    (moment_read c.args.format c.args.bytes.now c.in_ok-day.day c.in_ok-second.second c.moment_of.result (take-append-drop 10 c.args.bytes.now)
    (subst P c.split_at.ensures.front c.in_ok-day.ensures)
    (subst Q c.split_at.ensures.back c.in_ok-second.ensures)
    (c.moment_of.ensures ∙ ap (λ d. (d *ℤ pos 86_400) +ℤ pos c.in_ok-second.second) (to_z-of_z w32 c.in_ok-day.day fits)))
