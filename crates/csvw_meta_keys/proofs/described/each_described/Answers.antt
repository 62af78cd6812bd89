-- The list grows by one item.
use Rattle.std.proofs.Common.{◌∙◌, ap, map}
use Rattle.std.proofs.lemmas.List.{take_all}
use Rattle.csvw_meta_keys.specs.Described.{described}
use Rattle.csvw_meta_keys.proofs.DescribedLemmas.{map_more}
use Rattle.csvw_meta_keys.proofs.described.each_described.Goals as goal

pub loop-key-preserved : goal.loop-key-preserved
loop-key-preserved c =
    c.in_ok-push.ensures.items
    ∙ map_more c.args.keys.now c.loop-key.key-index c.key-item.result c.loop-key-test.true c.key-item.is (described c.args.targets.now)
    c.loop-key.all.items c.loop-key.invariant c.in_ok-key.key c.in_ok-key.ensures

pub returns : goal.returns
returns c = c.of.ensures ∙ c.loop-key.invariant ∙ ap (map (described c.args.targets.now)) (take_all c.loop-key.key-index c.args.keys.now c.loop-key-test.false)
