-- One cell more, a part of them, or all.
use Rattle.std.proofs.Common.{arith, refl}
use Rattle.std.specs.Prelude.{None, option_copied}
use Rattle.std.specs.List.{zip}
use Rattle.std.proofs.lemmas.Result.{err_from_is_err_and}
use Rattle.csvw_triples_rows.specs.StandardTriples.{described_cells, last_after}
use Rattle.csvw_triples_rows.proofs.Walking.{starts, ends, walks_on, walk_fails, next_cell, no_cells}
use Rattle.csvw_triples_rows.proofs.emitter.Emitter.emit_all_described.Goals as goal

pub loop-i-init : goal.loop-i-init
loop-i-init g c =
    let s = g.S.TripleSink in
    let place = c.args.place in
    starts s.gains s.cuts s.is_open s.failed g.met.S.TripleSink.stays c.args.sink.now
    (described_cells place.table place.row None (zip c.args.columns.now c.args.cells.now))

pub returns-in_err-emit_described : goal.returns-in_err-emit_described
returns-in_err-emit_described g c =
    let p = err_from_is_err_and c.from_residual.result c.from_residual.ensures.1 in
    let s = g.S.TripleSink in
    let place = c.args.place in
    let last = option_copied c.loop-i.last in
    let column = c.index-columns-i.result in
    let cell = c.index-cells-i.result in
    let next = next_cell place.table place.row c.args.columns.now c.args.cells.now c.loop-i.i last (last_after column last cell) column cell
    (omega arith) (omega arith) c.index-columns-i.is c.index-cells-i.is refl in
    let fails = walk_fails s.gains s.cuts s.is_open s.failed g.met.S.TripleSink.goes_on c.args.sink.now c.loop-i.sink c.emit_described.new.sink in
    rw (p.1, p.2) (fails _ _ _ _ c.in_err-emit_described.field-0.0 next c.loop-i.invariant c.in_err-emit_described.ensures)

pub loop-i-preserved : goal.loop-i-preserved
loop-i-preserved g c =
    let s = g.S.TripleSink in
    let place = c.args.place in
    let last = option_copied c.loop-i.last in
    let column = c.index-columns-i.result in
    let cell = c.index-cells-i.result in
    let next = next_cell place.table place.row c.args.columns.now c.args.cells.now c.loop-i.i last (option_copied c.last_after-last.result) column cell
    (omega arith) (omega arith) c.index-columns-i.is c.index-cells-i.is c.last_after-last.ensures in
    walks_on s.gains s.cuts s.is_open s.failed g.met.S.TripleSink.goes_on c.args.sink.now c.loop-i.sink c.emit_described.new.sink _ _ _ _
    next c.loop-i.invariant c.in_ok-emit_described.ensures

pub returns : goal.returns
returns g c =
    let s = g.S.TripleSink in
    let place = c.args.place in
    ends s.gains s.cuts s.is_open s.failed c.args.sink.now c.loop-i.sink _ _
    (no_cells place.table place.row c.args.columns.now c.args.cells.now c.loop-i.i (option_copied c.loop-i.last) (omega arith)) c.loop-i.invariant
