-- One more character is plain.
use Rattle.std.proofs.Common.{◌∙◌}
use Rattle.csvw_template.specs.Expand.{is_plain}
use Rattle.csvw_template.proofs.StepLemmas.{all_on}
use Rattle.csvw_template.proofs.encode.is_plain_text.Goals as goal

pub loop-b-preserved : goal.loop-b-preserved
loop-b-preserved c =
    c.loop-b.invariant ∙ all_on is_plain c.as_bytes-bytes.result.now c.loop-b.b-index c.loop-b-test.true c.if-not-is_plain.ensures
