-- The formats so far are added.
use Rattle.std.proofs.Common.{◌≡◌, ◌++◌, take}
use Rattle.csvw_draft.specs.Kinds.{day_kinds}
use Rattle.csvw_draft.proofs.kind.push_days.Given as goal

abbrev pub invariant-loop-format : goal.invariant-loop-format
invariant-loop-format l = l.kinds.items ≡ l.initial.kinds.items ++ day_kinds (take l.format-index l.formats)
