-- The triples that describe the cell's subject, and then those of the cell.
use Rattle.std.proofs.lemmas.Result.{err_from_is_err_and}
use Rattle.std.specs.Prelude.{◌++◌, option_copied}
use Rattle.csvw_triples_rows.specs.RowTriples.{cell_triples}
use Rattle.csvw_triples_rows.specs.StandardTriples.{describes_triples}
use Rattle.csvw_triples_rows.proofs.Emitting.{puts_then, puts_front}
use Rattle.csvw_triples_rows.proofs.Walking.{shown}
use Rattle.csvw_triples_rows.proofs.emitter.Emitter.emit_described.Goals as goal

pub returns-in_err-emit_describes : goal.returns-in_err-emit_describes
returns-in_err-emit_describes g c =
    let p = err_from_is_err_and c.from_residual.result c.from_residual.ensures.1 in
    let s = g.S.TripleSink in
    let front = puts_front s.gains s.cuts s.is_open s.failed c.args.sink.now c.emit_describes.new.sink in
    let column = c.args.column.now in
    let place = c.args.place in
    let all = describes_triples place.table place.row (option_copied c.args.last) c.args.cell.now
    ++ cell_triples place.table place.row column c.args.cell.now in
    rw (p.1, p.2) (front _ _ _ c.in_err-emit_describes.field-0.0 (shown column.suppressed all c.if-column.false) c.in_err-emit_describes.ensures)

pub returns : goal.returns
returns g c =
    let s = g.S.TripleSink in
    let then = puts_then s.gains s.cuts s.is_open s.failed g.met.S.TripleSink.goes_on c.args.sink.now c.emit_describes.new.sink c.emit_cell.new.sink in
    let column = c.args.column.now in
    let place = c.args.place in
    let all = describes_triples place.table place.row (option_copied c.args.last) c.args.cell.now
    ++ cell_triples place.table place.row column c.args.cell.now in
    then _ _ _ c.emit_cell.result (shown column.suppressed all c.if-column.false) c.in_ok-emit_describes.ensures c.emit_cell.ensures
