-- The value of one item more.
use Rattle.csvw_cell.specs.declared.cell.Item.{Item}
use Rattle.csvw_keys.proofs.ListLemmas.{map_longer}
use Rattle.csvw_keys.proofs.key.values_of.Goals as goal

pub loop-item-preserved : goal.loop-item-preserved
loop-item-preserved c =
    map_longer (λ (i : Item). i.value) c.args.items.now c.loop-item.item-index c.item-item.result c.loop-item-test.true c.item-item.is c.loop-item.invariant
    c.in_ok-push.ensures.items c.in_ok-value.ensures
