-- One item more, a part of them, or all.
use Rattle.std.proofs.Common.{arith, map}
use Rattle.std.proofs.lemmas.Result.{err_from_is_err_and}
use Rattle.csvw_triples_rows.specs.RowTitles.{title_triple}
use Rattle.csvw_triples_rows.proofs.TitleWalks.{next_title, no_titles}
use Rattle.csvw_triples_rows.proofs.Walking.{starts, ends, walks_on, walk_fails}
use Rattle.csvw_triples_rows.proofs.emitter.Emitter.emit_each_title.Goals as goal

pub loop-i-init : goal.loop-i-init
loop-i-init g c =
    let s = g.S.TripleSink in
    let f = title_triple c.args.place.table c.args.place.row c.args.column.now in
    starts s.gains s.cuts s.is_open s.failed g.met.S.TripleSink.stays c.args.sink.now (map f c.args.items.now)

pub returns-in_err-emit_title : goal.returns-in_err-emit_title
returns-in_err-emit_title g c =
    let p = err_from_is_err_and c.from_residual.result c.from_residual.ensures.1 in
    let s = g.S.TripleSink in
    let f = title_triple c.args.place.table c.args.place.row c.args.column.now in
    let next = next_title f c.args.items.now c.loop-i.i c.index-items-i.result (omega arith) c.index-items-i.is in
    let fails = walk_fails s.gains s.cuts s.is_open s.failed g.met.S.TripleSink.goes_on c.args.sink.now c.loop-i.sink c.emit_title.new.sink in
    rw (p.1, p.2) (fails _ _ _ _ c.in_err-emit_title.field-0.0 next c.loop-i.invariant c.in_err-emit_title.ensures)

pub loop-i-preserved : goal.loop-i-preserved
loop-i-preserved g c =
    let s = g.S.TripleSink in
    let f = title_triple c.args.place.table c.args.place.row c.args.column.now in
    let next = next_title f c.args.items.now c.loop-i.i c.index-items-i.result (omega arith) c.index-items-i.is in
    walks_on s.gains s.cuts s.is_open s.failed g.met.S.TripleSink.goes_on c.args.sink.now c.loop-i.sink c.emit_title.new.sink _ _ _ _
    next c.loop-i.invariant c.in_ok-emit_title.ensures

pub returns : goal.returns
returns g c =
    let s = g.S.TripleSink in
    let f = title_triple c.args.place.table c.args.place.row c.args.column.now in
    ends s.gains s.cuts s.is_open s.failed c.args.sink.now c.loop-i.sink _ _ (no_titles f c.args.items.now c.loop-i.i (omega arith)) c.loop-i.invariant
