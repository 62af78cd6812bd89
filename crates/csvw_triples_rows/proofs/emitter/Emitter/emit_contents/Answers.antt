-- The titles, and then the triples of the cells.
use Rattle.std.proofs.Common.{refl}
use Rattle.std.proofs.lemmas.Result.{err_from_is_err_and}
use Rattle.csvw_triples_rows.proofs.Emitting.{puts_then, puts_front}
use Rattle.csvw_triples_rows.proofs.emitter.Emitter.emit_contents.Goals as goal

pub returns-in_err-emit_titles : goal.returns-in_err-emit_titles
returns-in_err-emit_titles g c =
    let p = err_from_is_err_and c.from_residual.result c.from_residual.ensures.1 in
    let s = g.S.TripleSink in
    let front = puts_front s.gains s.cuts s.is_open s.failed c.args.sink.now c.emit_titles.new.sink in
    rw (p.1, p.2) (front _ _ _ c.in_err-emit_titles.field-0.0 refl c.in_err-emit_titles.ensures)

pub returns : goal.returns
returns g c =
    let s = g.S.TripleSink in
    let then = puts_then s.gains s.cuts s.is_open s.failed g.met.S.TripleSink.goes_on c.args.sink.now c.emit_titles.new.sink c.emit_all_described.new.sink in
    then _ _ _ c.emit_all_described.result refl c.in_ok-emit_titles.ensures c.emit_all_described.ensures
