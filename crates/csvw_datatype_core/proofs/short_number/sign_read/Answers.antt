use Rattle.csvw_datatype_core.proofs.ShortLemmas.{minus_read, plus_read}
use Rattle.csvw_datatype_core.proofs.short_number.sign_read.Goals as goal

pub returns-in-len1-up : goal.returns-in-len1-up
returns-in-len1-up c = λ rules. minus_read rules c.args.text.now c.in-len1-up.len_at_least c.if-first-eq45.true

pub returns-in-len1-up-2 : goal.returns-in-len1-up-2
returns-in-len1-up-2 c = λ rules. plus_read rules c.args.text.now c.in-len1-up.len_at_least c.if-first-eq43.true
