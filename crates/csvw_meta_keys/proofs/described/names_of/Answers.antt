-- The list grows by one item.
use Rattle.std.proofs.Common.{◌∙◌, ap}
use Rattle.std.proofs.lemmas.List.{take_all}
use Rattle.csvw_meta_keys.specs.Described.{names_of}
use Rattle.csvw_meta_keys.proofs.DescribedLemmas.{map_more}
use Rattle.csvw_meta_keys.proofs.described.names_of.Goals as goal

pub loop-name-preserved : goal.loop-name-preserved
loop-name-preserved c =
    c.in_ok-push.ensures.items
    ∙ map_more c.args.key.now c.loop-name.name-index c.name-item.result c.loop-name-test.true c.name-item.is (λ k. k.name)
    c.loop-name.names.items c.loop-name.invariant c.in_ok-text.text c.in_ok-text.ensures

pub returns : goal.returns
returns c = c.of.ensures ∙ c.loop-name.invariant ∙ ap names_of (take_all c.loop-name.name-index c.args.key.now c.loop-name-test.false)
