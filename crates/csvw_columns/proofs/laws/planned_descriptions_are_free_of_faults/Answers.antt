-- This goes by cases on the code.
use Rattle.csvw_columns.proofs.FreeLemmas.{free}
use Rattle.csvw_columns.proofs.laws.planned_descriptions_are_free_of_faults.Goals as goal

pub returns : goal.returns
returns c = free
