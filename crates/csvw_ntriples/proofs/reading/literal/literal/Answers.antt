-- A string and the suffix after it.
use Rattle.std.proofs.lemmas.Result.{err_from_is_err_and}
use Rattle.csvw_ntriples.proofs.Composed.{err_on_dot, dot_on_dot, no_lit, lit_once_before}
use Rattle.csvw_ntriples.proofs.reading.literal.literal.Goals as goal

pub returns-in_err-value : goal.returns-in_err-value
returns-in_err-value c =
    let p = err_from_is_err_and c.from_residual.result c.from_residual.ensures.1 in
    err_on_dot _ _ c.from_residual.result p.0 _ p.1 p.2 c.in_err-value.ensures (λ none l rest t d. none l.text t.0 t.1)

pub returns-in_err-ending : goal.returns-in_err-ending
returns-in_err-ending c =
    let p = err_from_is_err_and c.from_residual-in_err-ending.result c.from_residual-in_err-ending.ensures.1 in
    dot_on_dot _ _ c.from_residual-in_err-ending.result p.0 _ p.1 p.2 c.in_err-ending.ensures
    (no_lit c.args.text.now c.in_ok-value.rest.now c.in_ok-value.value c.in_ok-value.ensures)

pub returns : goal.returns
returns c = (
  (c.in_ok-value.rest.now, c.in_ok-value.ensures, c.in_ok-ending.ensures.0),
  lit_once_before c.args.text.now c.in_ok-value.rest.now c.in_ok-value.value c.in_ok-ending.rest.now c.in_ok-value.ensures c.in_ok-ending.ensures.1,
)
