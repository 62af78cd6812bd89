-- The next item is judged behind those that were passed.
use Rattle.csvw_meta_core.specs.Pointer.{text_of}
use Rattle.csvw_defaults.specs.Sources.{source_of}
use Rattle.csvw_defaults.proofs.ItemLemmas.{goes_on, items_done}
use Rattle.csvw_defaults.proofs.array.judge_items.Goals as goal

pub loop-i-preserved : goal.loop-i-preserved
loop-i-preserved g c =
    let l = c.loop-i in
    let left = rw (c.item.ensures.at, c.item.ensures.source, c.item.ensures.value) at c.in_ok-kept.ensures.left in
    let faults = rw (c.item.ensures.at, c.item.ensures.source, c.item.ensures.value) at c.in_ok-kept.ensures.faults in
    rw c.in_ok-push_kept.ensures (goes_on (g.I.Items.rule c.args.rule.now) (text_of c.args.node.now.part.at) (source_of c.args.node.now.source) c.args.items.now c.args.faults.now.items
    l.faults.items c.judge.new.faults.items l.left.items l.is_ignored l.i c.index-items-i.result c.in_ok-kept.kept c.loop-i-test.true c.index-items-i.is
    l.invariant left faults)

pub returns-clause-items : goal.returns-clause-items
returns-clause-items g c =
    items_done (g.I.Items.rule c.args.rule.now) (text_of c.args.node.now.part.at) (source_of c.args.node.now.source) c.args.items.now c.args.faults.now.items c.loop-i.faults.items
    c.loop-i.left.items c.loop-i.is_ignored c.loop-i.i c.loop-i-test.false c.loop-i.invariant
