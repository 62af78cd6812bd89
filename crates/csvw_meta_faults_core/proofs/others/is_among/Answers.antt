-- Borrowed names are compared as the names themselves.
use Rattle.std.proofs.Common.{arith}
use Rattle.std.proofs.lemmas.Grind.{common_steps}
use Rattle.csvw_meta_faults_core.proofs.NamesLemmas.{is_among-names_of}
use Rattle.csvw_meta_faults_core.proofs.others.is_among.Goals as goal

pub returns-then-eq : goal.returns-then-eq
returns-then-eq c = rw (is_among-names_of c.args.names.now c.args.name.now) (grind (arith, common_steps))

pub returns : goal.returns
returns c = rw (is_among-names_of c.args.names.now c.args.name.now) (grind (arith, common_steps))
