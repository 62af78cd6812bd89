-- The set has one more text.
use Rattle.std.proofs.Common.{◌∙◌}
use Rattle.csvw_description.proofs.NullsLemmas.{one_more}
use Rattle.csvw_description.proofs.nulls.set_of.Goals as goal

pub loop-text-preserved : goal.loop-text-preserved
loop-text-preserved c =
    one_more c.args.texts.now c.loop-text.text-index c.text-item.result _ c.loop-text.set c.insert.new.self c.loop-text-test.true
    (c.in_ok-copy.ensures.ok ∙ c.as_str.ensures ∙ c.text-item.is) c.in_ok-insert.ensures.updates c.loop-text.invariant
