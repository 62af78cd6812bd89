-- The faults of an item come before those of the remaining ones.
use Rattle.csvw_meta_core.specs.Pointer.{text_of}
use Rattle.std.proofs.Common.{◌+◌}
use Rattle.csvw_meta.specs.Table.{table}
use Rattle.csvw_meta_faults.proofs.FaultsLemmas.{goes_on, is_done}
use Rattle.csvw_meta_faults.proofs.group.find_each.Goals as goal

pub loop-i-preserved : goal.loop-i-preserved
loop-i-preserved c =
    goes_on (table c.args.context.now) (text_of c.args.part.now.at) _ c.find_in_item.new.faults.items c.loop-i.faults.items c.loop-i.i c.index-items-i.result
    c.args.items.now c.loop-i-test.true c.index-items-i.is (c.loop-i.invariant) (c.in_ok-find_in_item.ensures (c.loop-i.i + 1))

pub returns : goal.returns
returns c =
    is_done (table c.args.context.now) (text_of c.args.part.now.at) _ c.loop-i.faults.items c.loop-i.i c.args.items.now c.loop-i-test.false (c.loop-i.invariant)
