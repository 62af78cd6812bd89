use Rattle.std.proofs.Common.{arith, refl}
use Rattle.csvw_datatype_core.proofs.SpellingLemmas.{spelling_begins, spelling_step, spelling_ends}
use Rattle.csvw_datatype_core.proofs.lexical_number.push_fraction.Goals as goal

pub loop-rest-init : goal.loop-rest-init
loop-rest-init c = spelling_begins c.args.fraction (omega arith) c.requires

pub loop-rest-preserved : goal.loop-rest-preserved
loop-rest-preserved c = spelling_step _ _ _ _ _ c.loop-rest.invariant c.loop-rest-test.true refl

pub returns : goal.returns
returns c = spelling_ends _ _ _ _ _ _ c.loop-rest.invariant (omega arith) c.in_ok-push_ascii.ensures
