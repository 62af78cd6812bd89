-- The formats so far are added.
use Rattle.std.proofs.Common.{◌≡◌, ◌++◌, take}
use Rattle.csvw_draft.specs.Kinds.{spaced_kinds}
use Rattle.csvw_draft.proofs.kind.push_spaced.Given as goal

abbrev pub invariant-loop-date : goal.invariant-loop-date
invariant-loop-date l = l.kinds.items ≡ l.initial.kinds.items ++ spaced_kinds l.time (take l.date-index l.dates)
