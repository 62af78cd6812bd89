use Rattle.std.proofs.Common.{take, string_bytes}
use Rattle.csvw_template.specs.Bound.{bound_values}
use Rattle.csvw_template.proofs.SignedLemmas.{Wrote}
use Rattle.csvw_template.proofs.bound.push_bindings.Given as goal

abbrev pub invariant-loop-binding : goal.invariant-loop-binding
invariant-loop-binding g l =
    Wrote l.operator (string_bytes l.initial.out) (bound_values l.operator (g.V.Values.values l.values) (take l.binding-index l.bindings)) l.is_first
    (string_bytes l.out)
