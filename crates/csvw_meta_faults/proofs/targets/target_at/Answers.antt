-- The pointer is that of the table.
use Rattle.csvw_meta_faults.proofs.targets.target_at.Goals as goal

pub returns : goal.returns
returns c = rw (c.as_str.ensures, c.in_ok-at.ensures) at c.target_seen.ensures
