-- A front is shorter.
use Rattle.std.proofs.Common.{length}
use Rattle.csvw_meta_faults.proofs.fronts.+add_fronts.Given as goal

abbrev pub decreases-add_fronts : goal.decreases-add_fronts
decreases-add_fronts l = length l.pointer.now
