use Rattle.std.proofs.Common.{take, string_bytes}
use Rattle.csvw_template.specs.Expand.{values}
use Rattle.csvw_template.proofs.SignedLemmas.{Wrote}
use Rattle.csvw_template.proofs.expand.push_values.Given as goal

abbrev pub invariant-loop-name : goal.invariant-loop-name
invariant-loop-name g l =
    Wrote l.operator (string_bytes l.initial.out) (values l.operator (g.S.Scope.variables l.scope) (take l.name-index l.names)) l.is_first (string_bytes l.out)
