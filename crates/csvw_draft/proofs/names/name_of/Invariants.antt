use Rattle.std.proofs.Common.{string_bytes}
use Rattle.csvw_draft.specs.Names.{IsMade}
use Rattle.csvw_draft.proofs.names.name_of.Given as goal

abbrev pub invariant-loop-c : goal.invariant-loop-c
invariant-loop-c l = IsMade (string_bytes l.name)
