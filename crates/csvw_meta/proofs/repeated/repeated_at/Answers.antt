use Rattle.std.proofs.Common.{sym, ◌∙◌}
use Rattle.csvw_meta.proofs.RepeatedLemmas.{goes_on, ends}
use Rattle.csvw_meta.proofs.repeated.repeated_at.Goals as goal

pub returns-then-has_text : goal.returns-then-has_text
returns-then-has_text c = λ fault.
    ends fault c.args.texts.now c.loop-i.i c.index-texts-i.result c.loop-i-test.true c.index-texts-i.is _ (c.loop-i.invariant fault)
    (sym c.has_text.ensures ∙ c.if-has_text.true)

pub loop-i-preserved : goal.loop-i-preserved
loop-i-preserved c = λ fault.
    goes_on fault c.args.texts.now c.loop-i.i c.index-texts-i.result c.loop-i-test.true c.index-texts-i.is _ (c.loop-i.invariant fault)
    (sym c.has_text.ensures ∙ c.if-has_text.false)
