-- The time of day after the first space has as many bytes as its format says.
use mir.Syntax.{w32, w64}
use Rattle.std.proofs.lemmas.Int.{to_z-of_z}
use Rattle.std.proofs.Common.{ℕ, ℤ, pos, ◌+ℤ◌, ◌*ℤ◌, List, rules, FitsSigned, Some, None, take, drop, refl, ap, ◌∙◌}
use Rattle.csvw_datatype_core.specs.Stamps.{time_len}
use Rattle.csvw_datatype_core.specs.Values.{time_value}
use Rattle.csvw_datatype_core.proofs.DateTimeLemmas.{back_is, front_is}
use Rattle.csvw_datatype_core.proofs.StampLemmas.{no_space_found, spaced_found}
use Rattle.csvw_datatype_core.proofs.stamp.spaced_at.Goals as goal

pub returns-in_err-before : goal.returns-in_err-before
returns-in_err-before c = rw c.from_residual.ensures (no_space_found c.args.date c.args.time c.args.text.now c.in_err-before.ensures)

pub returns-in_err-day : goal.returns-in_err-day
returns-in_err-day c =
    let after = c.in_ok-before.after.now in
    let k = time_len c.args.time in
    rw c.from_residual-in_err-day.ensures
    (spaced_found c.args.date c.args.time c.args.text.now c.in_ok-before.before.now after (take k after) (drop k after) None
    (time_value c.args.time (take k after)) c.in_ok-before.ensures refl refl c.in_err-day.ensures refl)

pub returns-in_err-second : goal.returns-in_err-second
returns-in_err-second c =
    let after = c.in_ok-before.after.now in
    let bytes = c.as_bytes-bytes.result.now in
    let k = time_len c.args.time in
    let front = c.split_at.ensures.front ∙ ap (λ n. take n bytes) c.min.ensures ∙ front_is c.time_len.result bytes
    ∙ ap (λ n. take n bytes) c.time_len.ensures ∙ ap (λ (l : List ℕ). take k l) c.as_bytes-bytes.ensures.value in
    rw c.from_residual-in_err-second.ensures
    (spaced_found c.args.date c.args.time c.args.text.now c.in_ok-before.before.now after c.split_at.result.0.now (drop k after)
    (Some c.in_ok-day.day) None c.in_ok-before.ensures front refl c.in_ok-day.ensures c.in_err-second.ensures.second)

pub returns : goal.returns
returns c =
    let after = c.in_ok-before.after.now in
    let bytes = c.as_bytes-bytes.result.now in
    let k = time_len c.args.time in
    let front = c.split_at.ensures.front ∙ ap (λ n. take n bytes) c.min.ensures ∙ front_is c.time_len.result bytes
    ∙ ap (λ n. take n bytes) c.time_len.ensures ∙ ap (λ (l : List ℕ). take k l) c.as_bytes-bytes.ensures.value in
    let back = c.split_at.ensures.back ∙ ap (λ n. drop n bytes) c.min.ensures ∙ back_is c.time_len.result bytes
    ∙ ap (λ n. drop n bytes) c.time_len.ensures ∙ ap (λ (l : List ℕ). drop k l) c.as_bytes-bytes.ensures.value in
    let day : FitsSigned w32 c.in_ok-day.day = search rules in
    let fits : FitsSigned w64 c.moment_of.result = search rules in
    ap (λ (z : ℤ). Some (z, c.split_at.result.1.now)) (to_z-of_z w64 c.moment_of.result fits ∙ c.moment_of.ensures
    ∙ ap (λ d. (d *ℤ pos 86_400) +ℤ pos c.in_ok-second.second) (to_z-of_z w32 c.in_ok-day.day day))
    ∙ spaced_found c.args.date c.args.time c.args.text.now c.in_ok-before.before.now after c.split_at.result.0.now c.split_at.result.1.now
    (Some c.in_ok-day.day) (Some c.in_ok-second.second) c.in_ok-before.ensures front back c.in_ok-day.ensures c.in_ok-second.ensures.second
