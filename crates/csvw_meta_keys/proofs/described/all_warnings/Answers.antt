-- The list grows by the warnings on one key.
use Rattle.std.proofs.Common.{◌∙◌, ap}
use Rattle.std.proofs.lemmas.List.{take_all}
use Rattle.csvw_meta_keys.specs.Described.{all_warnings}
use Rattle.csvw_meta_keys.proofs.DescribedLemmas.{flat_map_more}
use Rattle.csvw_meta_keys.proofs.described.all_warnings.Goals as goal

pub loop-key-preserved : goal.loop-key-preserved
loop-key-preserved c =
    rw c.as_slice.ensures at c.in_ok-extend_from_slice.ensures.items
    ∙ flat_map_more c.args.keys.now c.loop-key.key-index c.key-item.result c.loop-key-test.true c.key-item.is (λ k. k.warnings)
    c.loop-key.warnings.items c.loop-key.invariant

pub returns : goal.returns
returns c = c.of.ensures ∙ c.loop-key.invariant ∙ ap all_warnings (take_all c.loop-key.key-index c.args.keys.now c.loop-key-test.false)
