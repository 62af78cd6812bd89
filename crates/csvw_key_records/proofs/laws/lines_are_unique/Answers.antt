-- The lines of records can be read in one way.
use Rattle.csvw_key_records.proofs.Uniqueness.{unique}
use Rattle.csvw_key_records.proofs.laws.lines_are_unique.Goals as goal

pub returns : goal.returns
returns c = unique
