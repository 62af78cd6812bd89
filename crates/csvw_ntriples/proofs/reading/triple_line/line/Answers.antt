-- A line that isn't idle has its triple.
use Rattle.std.proofs.lemmas.Result.{err_from_is_err_and}
use Rattle.csvw_ntriples.proofs.Composed.{answer_on, no_line}
use Rattle.csvw_ntriples.proofs.reading.triple_line.line.Goals as goal

pub returns-in_err-triple : goal.returns-in_err-triple
returns-in_err-triple c =
    let p = err_from_is_err_and c.from_residual.result c.from_residual.ensures.1 in
    answer_on _ _ c.from_residual.result p.0 _ p.1 p.2 c.in_err-triple.ensures
    (no_line c.args.text.now (λ idle. let yes = c.is_idle.ensures.1 idle in let no = c.if-is_idle.false in cc))
