-- One triple more, a part of them, or all.
use Rattle.std.proofs.Common.{arith}
use Rattle.std.proofs.lemmas.List.{drop_all}
use Rattle.std.proofs.lemmas.Result.{err_from_is_err_and}
use Rattle.csvw_triples_rows.proofs.Walking.{starts, ends, walks_on, walk_fails, next_triple}
use Rattle.csvw_triples_rows.proofs.putting.put_each.Goals as goal

pub loop-triple-init : goal.loop-triple-init
loop-triple-init g c =
    let s = g.S.TripleSink in
    starts s.gains s.cuts s.is_open s.failed g.met.S.TripleSink.stays c.args.sink.now c.args.triples.now

pub returns-in_err-put_one : goal.returns-in_err-put_one
returns-in_err-put_one g c =
    let p = err_from_is_err_and c.from_residual.result c.from_residual.ensures.1 in
    let s = g.S.TripleSink in
    let next = next_triple c.args.triples.now c.loop-triple.triple-index c.triple-item.result (omega arith) c.triple-item.is in
    let fails = walk_fails s.gains s.cuts s.is_open s.failed g.met.S.TripleSink.goes_on c.args.sink.now c.loop-triple.sink c.put_one.new.sink in
    rw (p.1, p.2) (fails _ _ _ _ c.in_err-put_one.field-0.0 next c.loop-triple.invariant c.in_err-put_one.ensures)

pub loop-triple-preserved : goal.loop-triple-preserved
loop-triple-preserved g c =
    let s = g.S.TripleSink in
    let next = next_triple c.args.triples.now c.loop-triple.triple-index c.triple-item.result (omega arith) c.triple-item.is in
    let then = walks_on s.gains s.cuts s.is_open s.failed g.met.S.TripleSink.goes_on c.args.sink.now c.loop-triple.sink c.put_one.new.sink in
    then _ _ _ _ next c.loop-triple.invariant c.in_ok-put_one.ensures

pub returns : goal.returns
returns g c =
    let s = g.S.TripleSink in
    ends s.gains s.cuts s.is_open s.failed c.args.sink.now c.loop-triple.sink _ _
    (drop_all c.loop-triple.triple-index c.args.triples.now (omega arith)) c.loop-triple.invariant
