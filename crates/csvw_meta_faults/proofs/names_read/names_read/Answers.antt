-- The marks have the faults.
use Rattle.csvw_meta_faults.proofs.names_read.names_read.Goals as goal

pub returns : goal.returns
returns c = rw (c.as_str.ensures, c.in_ok-at.ensures, c.in_ok-marks.ensures) at c.names_known.ensures
