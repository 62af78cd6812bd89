use Rattle.csvw_fields.proofs.DecodeLemmas.{text_whole, whole_is_good}
use Rattle.csvw_fields.proofs.decode.valid_front.Goals as goal

pub returns-in-Ok-clause-text : goal.returns-in-Ok-clause-text
returns-in-Ok-clause-text c = let h = c.in-Ok.ensures.cases in text_whole c.args.bytes.now c.in-Ok.text.now h.0 h.1

pub returns-in-Ok-clause-bad : goal.returns-in-Ok-clause-bad
returns-in-Ok-clause-bad c = whole_is_good c.args.bytes.now c.in-Ok.ensures.cases.1
