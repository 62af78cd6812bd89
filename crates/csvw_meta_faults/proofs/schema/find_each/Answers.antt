-- The faults of an item come before those of the remaining ones.
use Rattle.csvw_meta_core.specs.Pointer.{text_of}
use Rattle.std.proofs.Common.{◌+◌}
use Rattle.csvw_meta.specs.Column.{column}
use Rattle.csvw_meta_faults.proofs.FaultsLemmas.{goes_on, is_done}
use Rattle.csvw_meta_faults.proofs.schema.find_each.Goals as goal

pub loop-i-preserved : goal.loop-i-preserved
loop-i-preserved c = λ table.
    goes_on (column c.args.context.now table) (text_of c.args.part.now.at) _ c.find_in_item.new.faults.items c.loop-i.faults.items
    c.loop-i.i c.index-items-i.result
    c.args.items.now c.loop-i-test.true c.index-items-i.is (c.loop-i.invariant table) (c.in_ok-find_in_item.ensures table (c.loop-i.i + 1))

pub returns : goal.returns
returns c = λ table.
    is_done (column c.args.context.now table) (text_of c.args.part.now.at) _ c.loop-i.faults.items
    c.loop-i.i c.args.items.now c.loop-i-test.false (c.loop-i.invariant table)
