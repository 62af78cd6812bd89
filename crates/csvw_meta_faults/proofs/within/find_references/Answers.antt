-- The marks have the faults, and the targets are those of the tables.
use Rattle.std.proofs.Common.{◌∙◌}
use Rattle.csvw_meta_faults.proofs.within.find_references.Goals as goal

pub find_to_targets-requires : goal.find_to_targets-requires
find_to_targets-requires c = c.as_slice-2.ensures ∙ (rw (c.as_slice.ensures, c.as_str.ensures, c.in_ok-at.ensures) at c.in_ok-targets.ensures)

pub returns : goal.returns
returns c = rw c.in_ok-marks.ensures at c.find_to_targets.ensures
