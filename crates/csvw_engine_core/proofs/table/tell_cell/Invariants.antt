-- The faults of the codes passed so far.
use Rattle.std.proofs.Common.{◌≡◌, ◌++◌, take}
use Rattle.csvw_engine_core.specs.Faults.{cell_faults}
use Rattle.csvw_engine_core.proofs.table.tell_cell.Given as goal

abbrev pub invariant-loop-code : goal.invariant-loop-code
invariant-loop-code l = l.faults ≡ l.initial.faults ++ cell_faults l.place (take l.code-index l.codes)
