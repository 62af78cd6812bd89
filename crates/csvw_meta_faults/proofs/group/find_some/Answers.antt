-- The faults of the items come before that of their number.
use Rattle.std.proofs.Common.{append_assoc}
use Rattle.csvw_meta_faults.proofs.group.find_some.Goals as goal

pub returns : goal.returns
returns c = simp append_assoc at (rw c.in_ok-find_each.ensures at c.find_count.ensures)
