-- A fault of one table is a fault of all. A table that was read goes last.
use Rattle.std.proofs.lemmas.Result.{err_from_is_err_and}
use Rattle.csvw_meta_core.specs.Pointer.{text_of}
use Rattle.csvw_bundle.proofs.ItemsLemmas.{ends_at, goes_on_at, is_done}
use Rattle.csvw_bundle.proofs.named.table_items.Goals as goal

pub returns-in_err-table : goal.returns-in_err-table
returns-in_err-table c =
    let p = err_from_is_err_and c.from_residual.result c.from_residual.ensures.1 in
    rw (p.1, p.2) (ends_at c.args.bundle.resources.now c.args.bundle.base.now (text_of c.args.part.now.at) _ c.loop-i.read.items c.loop-i.i
    c.index-items-i.result c.args.items.now c.in_err-table.field-0.0 c.loop-i-test.true c.index-items-i.is c.loop-i.invariant
    (rw (c.item.ensures.at, c.item.ensures.value) at c.in_err-table.ensures))

pub loop-i-preserved : goal.loop-i-preserved
loop-i-preserved c =
    rw c.in_ok-push.ensures.items (goes_on_at c.args.bundle.resources.now c.args.bundle.base.now (text_of c.args.part.now.at) _ c.loop-i.read.items
    c.loop-i.i c.index-items-i.result c.args.items.now c.in_ok-table.field-0 c.loop-i-test.true c.index-items-i.is c.loop-i.invariant
    (rw (c.item.ensures.at, c.item.ensures.value) at c.in_ok-table.ensures))

pub returns : goal.returns
returns c = is_done c.args.bundle.resources.now c.args.bundle.base.now (text_of c.args.part.now.at) _ c.loop-i.read.items c.loop-i.i c.args.items.now
    c.loop-i-test.false c.loop-i.invariant
