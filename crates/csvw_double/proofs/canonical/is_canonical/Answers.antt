-- A 0 alone is its own canonical text.
use Rattle.std.proofs.Common.{rules}
use Rattle.csvw_double.proofs.PlainLemmas.{zero_alone}
use Rattle.csvw_double.proofs.canonical.is_canonical.Goals as goal

pub returns-in-48 : goal.returns-in-48
returns-in-48 c is = zero_alone c.args.text.now (search rules) (search rules)
