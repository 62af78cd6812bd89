-- A triple from its parts.
use Rattle.std.proofs.lemmas.Result.{err_from_is_err_and}
use Rattle.csvw_ntriples.proofs.Composed.{err_answer, answer_on, no_predicate, no_object}
use Rattle.csvw_ntriples.proofs.reading.triple_line.triple.Goals as goal

pub returns-in_err-p : goal.returns-in_err-p
returns-in_err-p c =
    let p = err_from_is_err_and c.from_residual-in_err-p.result c.from_residual-in_err-p.ensures.1 in
    err_answer _ _ c.from_residual-in_err-p.result p.0 _ p.1 p.2 c.in_err-p.ensures
    (no_predicate c.args.text.now c.in_ok-s.after_subject.now c.in_ok-s.s c.in_ok-s.ensures)

pub returns-in_err-o : goal.returns-in_err-o
returns-in_err-o c =
    let p = err_from_is_err_and c.from_residual-in_err-o.result c.from_residual-in_err-o.ensures.1 in
    answer_on _ _ c.from_residual-in_err-o.result p.0 _ p.1 p.2 c.in_err-o.ensures
    (no_object c.args.text.now c.in_ok-s.after_subject.now c.in_ok-p.after_predicate.now c.in_ok-p.p c.in_ok-s.s c.in_ok-s.ensures c.in_ok-p.ensures)
