-- What the fault of the sink means for the row.
use Rattle.std.proofs.lemmas.Result.{err_from_is_err_and}
use Rattle.csvw_engine_core.proofs.Going.{gave_row}
use Rattle.csvw_engine_core.proofs.giving.give.Goals as goal

pub returns-in_err-emit_row-in-Some : goal.returns-in_err-emit_row-in-Some
returns-in_err-emit_row-in-Some g c =
    let s = g.S.TripleSink in
    let t = c.args.table.now in
    let p = err_from_is_err_and c.from_residual.result c.from_residual.ensures.1 in
    let k = c.in_err-emit_row-in-Some.ensures in
    gave_row s.gains s.cuts s.is_open s.failed t.mode t.number t.head.columns c.in-Some.columns c.args.row.now c.args.sink.now c.emit_row.new.sink
    c.in_err-emit_row-in-Some.field-0.0 c.from_residual.result p.0 c.in-Some.is p.1 p.2 (rw c.columns.ensures at k.err) k.sink
