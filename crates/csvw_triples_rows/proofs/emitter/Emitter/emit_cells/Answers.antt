-- One cell more, a part of them, or all.
use Rattle.std.proofs.Common.{◌∙◌, ap, arith, ◌+◌, ◌++◌, drop, flat_map}
use Rattle.std.specs.List.{zip}
use Rattle.std.specs.Prelude.{Ok}
use Rattle.std.proofs.lemmas.Result.{err_from_is_err_and}
use Rattle.csvw_triples_rows.proofs.Emitting.{puts_then, puts_part, puts_same}
use Rattle.csvw_triples_rows.proofs.Runs.{pair_triples, cells_more, cells_left, cells_all}
use Rattle.csvw_triples_rows.proofs.emitter.Emitter.emit_cells.Goals as goal

pub returns-in_err-emit_cell : goal.returns-in_err-emit_cell
returns-in_err-emit_cell g c =
    let p = err_from_is_err_and c.from_residual.result c.from_residual.ensures.1 in
    let s = g.S.TripleSink in
    let part = puts_part s.gains s.cuts s.is_open s.failed g.met.S.TripleSink.goes_on c.args.sink.now c.loop-i.sink c.emit_cell.new.sink in
    let t = c.args.place.table in
    let number = c.args.place.row in
    let columns = c.args.columns.now in
    let cells = c.args.cells.now in
    let i = c.loop-i.i in
    let more = cells_more t number columns cells i c.index-columns-i.result c.index-cells-i.result
    (omega arith) (omega arith) c.index-columns-i.is c.index-cells-i.is in
    let parts = cells_left t number columns cells (i + 1) ∙ ap (λ ts. ts ++ flat_map (pair_triples t number) (drop (i + 1) (zip columns cells))) more in
    rw (p.1, p.2) (part _ _ _ _ c.in_err-emit_cell.field-0.0 parts c.loop-i.invariant c.in_err-emit_cell.ensures)

pub loop-i-preserved : goal.loop-i-preserved
loop-i-preserved g c =
    let s = g.S.TripleSink in
    let then = puts_then s.gains s.cuts s.is_open s.failed g.met.S.TripleSink.goes_on c.args.sink.now c.loop-i.sink c.emit_cell.new.sink in
    let place = c.args.place in
    let more = cells_more place.table place.row c.args.columns.now c.args.cells.now c.loop-i.i c.index-columns-i.result c.index-cells-i.result
    (omega arith) (omega arith) c.index-columns-i.is c.index-cells-i.is in
    then _ _ _ (Ok tt) more c.loop-i.invariant c.in_ok-emit_cell.ensures

pub returns : goal.returns
returns g c =
    let s = g.S.TripleSink in
    let place = c.args.place in
    puts_same s.gains s.cuts s.is_open s.failed c.args.sink.now c.loop-i.sink _ _ (Ok tt)
    (cells_all place.table place.row c.args.columns.now c.args.cells.now c.loop-i.i c.requires.places (omega arith)) c.loop-i.invariant
