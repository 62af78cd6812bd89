-- The front of the row, and then its titles and the triples of its cells.
use Rattle.std.proofs.lemmas.Result.{err_from_is_err_and}
use Rattle.std.specs.Prelude.{◌++◌}
use Rattle.csvw_triples_rows.specs.StandardTriples.{row_front, row_contents}
use Rattle.csvw_triples_rows.proofs.Emitting.{puts_then, puts_front}
use Rattle.csvw_triples_rows.proofs.Walking.{shown}
use Rattle.csvw_triples_rows.proofs.emitter.Emitter.emit_standard.Goals as goal

pub returns-in_err-emit_front : goal.returns-in_err-emit_front
returns-in_err-emit_front g c =
    let p = err_from_is_err_and c.from_residual.result c.from_residual.ensures.1 in
    let s = g.S.TripleSink in
    let front = puts_front s.gains s.cuts s.is_open s.failed c.args.sink.now c.emit_front.new.sink in
    let columns = c.args.columns.now in
    let row = c.args.row.now in
    let all = row_front c.args.t columns row ++ row_contents c.args.t row.number columns.columns row.cells in
    rw (p.1, p.2) (front _ _ _ c.in_err-emit_front.field-0.0 (shown columns.suppressed all c.if-columns.false) c.in_err-emit_front.ensures)

pub returns : goal.returns
returns g c =
    let s = g.S.TripleSink in
    let then = puts_then s.gains s.cuts s.is_open s.failed g.met.S.TripleSink.goes_on c.args.sink.now c.emit_front.new.sink c.emit_contents.new.sink in
    let columns = c.args.columns.now in
    let row = c.args.row.now in
    let all = row_front c.args.t columns row ++ row_contents c.args.t row.number columns.columns row.cells in
    let cells = rw (c.as_slice.ensures, c.as_slice-2.ensures) at c.emit_contents.ensures in
    then _ _ _ c.emit_contents.result (shown columns.suppressed all c.if-columns.false) c.in_ok-emit_front.ensures cells
