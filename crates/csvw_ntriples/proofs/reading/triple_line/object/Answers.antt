-- An object ends its line.
use Rattle.std.proofs.lemmas.Result.{err_from_is_err_and}
use Rattle.csvw_ntriples.proofs.Composed.{dot_answer, no_dark, no_dot, no_end}
use Rattle.csvw_ntriples.proofs.reading.triple_line.object.Goals as goal
use Rattle.csvw_ntriples.proofs.reading.triple_line.object.Goals.{in_default-via-in-Some+else-is_idle, in_default-via-in_default}

pub returns-in_err-object : goal.returns-in_err-object
returns-in_err-object c =
    let p = err_from_is_err_and c.from_residual.result c.from_residual.ensures.1 in
    dot_answer _ _ c.from_residual.result p.0 _ p.1 p.2 c.in_err-object.ensures (no_dark c.args.text.now)

pub returns-in_default : goal.returns-in_default
returns-in_default c =
    let text = c.args.text.now in
    let after = c.in_ok-object.rest.now in
    elim c.in_default.branch [
      | in_default-via-in-Some+else-is_idle w ↦
          no_end text after w.in-Some.end.now c.in_ok-object.ensures.1 w.in-Some.ensures
          (λ idle. let yes = w.is_idle.ensures.1 idle in let no = w.if-is_idle.false in cc)
      | in_default-via-in_default w ↦ no_dot text after c.in_ok-object.ensures.1 w.in_default.ensures
    ]
