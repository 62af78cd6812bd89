-- The warnings so far of the tables that begin in the part were added.
use Rattle.std.proofs.Common.{◌≡◌, ◌++◌, filter, take}
use Rattle.csvw_parts.specs.PartRuns.{begins_in}
use Rattle.csvw_parts.proofs.run.add_warnings.Given as goal

abbrev pub invariant-loop-warning : goal.invariant-loop-warning
invariant-loop-warning l =
    l.faults ≡ l.initial.faults ++ filter (λ warning. begins_in l.request warning.place.table) (take l.warning-index l.warning-items)
