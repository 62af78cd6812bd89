-- One more item, which is within the list.
use Rattle.std.proofs.Common.{arith}
use Rattle.csvw_annotate.proofs.ListedLemmas.{commas_more, listed_at}
use Rattle.csvw_annotate.proofs.values.are_longer.Goals as goal

pub loop-item-preserved : goal.loop-item-preserved
loop-item-preserved c =
    let more = commas_more c.args.items.now c.loop-item.item-index c.item-item.result c.loop-item-test.true c.item-item.is in
    omega arith

pub returns-then-len-most : goal.returns-then-len-most
returns-then-len-most c = λ _.
    let at = listed_at c.args.items.now c.loop-item.item-index c.item-item.result c.loop-item-test.true c.item-item.is in
    omega arith
