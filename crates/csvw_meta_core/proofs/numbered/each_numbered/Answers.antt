use Rattle.std.proofs.lemmas.Result.{err_from_is_err_and}
use Rattle.csvw_meta_core.specs.Pointer.{text_of}
use Rattle.csvw_meta_core.proofs.EachLemmas.{goes_on_at, ends_at, is_done}
use Rattle.csvw_meta_core.proofs.numbered.each_numbered.Goals as goal

pub returns-in_err-x : goal.returns-in_err-x
returns-in_err-x g c =
    let p = err_from_is_err_and c.from_residual.result c.from_residual.ensures.1 in
    rw (p.1, p.2)
    (ends_at (g.R.NumberedReader.reads c.args.reader.now) (text_of c.args.part.now.at) _ c.loop-i.found.items c.loop-i.i c.index-items-i.result
    c.args.items.now c.in_err-x.field-0.0 c.loop-i-test.true c.index-items-i.is c.loop-i.invariant c.in_err-x.ensures)

pub loop-i-preserved : goal.loop-i-preserved
loop-i-preserved g c =
    rw c.in_ok-push.ensures.items
    (goes_on_at (g.R.NumberedReader.reads c.args.reader.now) (text_of c.args.part.now.at) _ c.loop-i.found.items c.loop-i.i c.index-items-i.result
    c.args.items.now c.in_ok-x.x c.loop-i-test.true c.index-items-i.is c.loop-i.invariant c.in_ok-x.ensures)

pub returns : goal.returns
returns g c = rw c.of.ensures (is_done (g.R.NumberedReader.reads c.args.reader.now) (text_of c.args.part.now.at) _ c.loop-i.found.items c.loop-i.i
    c.args.items.now c.loop-i-test.false c.loop-i.invariant)
