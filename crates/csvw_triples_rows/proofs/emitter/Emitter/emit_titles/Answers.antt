-- One cell more, a part of them, or all.
use Rattle.std.proofs.Common.{arith}
use Rattle.std.proofs.lemmas.Result.{err_from_is_err_and}
use Rattle.csvw_triples_rows.specs.RowTitles.{titles_triples}
use Rattle.csvw_triples_rows.proofs.TitleWalks.{next_titles, no_titles_left}
use Rattle.csvw_triples_rows.proofs.Walking.{starts, ends, walks_on, walk_fails}
use Rattle.csvw_triples_rows.proofs.emitter.Emitter.emit_titles.Goals as goal

pub loop-i-init : goal.loop-i-init
loop-i-init g c =
    let s = g.S.TripleSink in
    let place = c.args.place in
    starts s.gains s.cuts s.is_open s.failed g.met.S.TripleSink.stays c.args.sink.now
    (titles_triples place.table place.row c.args.columns.now c.args.cells.now)

pub returns-in_err-emit_cell_titles : goal.returns-in_err-emit_cell_titles
returns-in_err-emit_cell_titles g c =
    let p = err_from_is_err_and c.from_residual.result c.from_residual.ensures.1 in
    let s = g.S.TripleSink in
    let place = c.args.place in
    let next = next_titles place.table place.row c.args.columns.now c.args.cells.now c.loop-i.i c.index-columns-i.result c.index-cells-i.result
    (omega arith) (omega arith) c.index-columns-i.is c.index-cells-i.is in
    let fails = walk_fails s.gains s.cuts s.is_open s.failed g.met.S.TripleSink.goes_on c.args.sink.now c.loop-i.sink c.emit_cell_titles.new.sink in
    rw (p.1, p.2) (fails _ _ _ _ c.in_err-emit_cell_titles.field-0.0 next c.loop-i.invariant c.in_err-emit_cell_titles.ensures)

pub loop-i-preserved : goal.loop-i-preserved
loop-i-preserved g c =
    let s = g.S.TripleSink in
    let place = c.args.place in
    let next = next_titles place.table place.row c.args.columns.now c.args.cells.now c.loop-i.i c.index-columns-i.result c.index-cells-i.result
    (omega arith) (omega arith) c.index-columns-i.is c.index-cells-i.is in
    walks_on s.gains s.cuts s.is_open s.failed g.met.S.TripleSink.goes_on c.args.sink.now c.loop-i.sink c.emit_cell_titles.new.sink _ _ _ _
    next c.loop-i.invariant c.in_ok-emit_cell_titles.ensures

pub returns : goal.returns
returns g c =
    let s = g.S.TripleSink in
    let place = c.args.place in
    ends s.gains s.cuts s.is_open s.failed c.args.sink.now c.loop-i.sink _ _
    (no_titles_left place.table place.row c.args.columns.now c.args.cells.now c.loop-i.i (omega arith)) c.loop-i.invariant
