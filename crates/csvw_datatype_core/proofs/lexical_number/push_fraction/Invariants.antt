use Rattle.std.proofs.Common.{◌-◌}
use Rattle.csvw_datatype_core.proofs.SpellingLemmas.{IsSpelling}
use Rattle.csvw_datatype_core.proofs.lexical_number.push_fraction.Given as goal

abbrev pub invariant-loop-rest : goal.invariant-loop-rest
invariant-loop-rest l = IsSpelling l.digits l.len l.fn.fraction l.rest

abbrev pub decreases-loop-rest : goal.decreases-loop-rest
decreases-loop-rest l = 19 - l.len
