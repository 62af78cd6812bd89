-- There are no more cells than are wanted.
use Rattle.std.proofs.Common.{◌≤◌, ◌-◌, length}
use Rattle.csvw_annotate.proofs.annotating.resized.Given as goal

abbrev pub invariant-loop-alloc : goal.invariant-loop-alloc
invariant-loop-alloc l = length l.cells.items ≤ l.count

abbrev pub decreases-loop-alloc : goal.decreases-loop-alloc
decreases-loop-alloc l = l.count - length l.cells.items
