use Rattle.csvw_rows.proofs.GivenLaws.{nothing_given}
use Rattle.csvw_records.specs.RecordLaws.{laws_of}
use Rattle.csvw_rows.proofs.laws.nothing_given.Goals as goal

pub returns : goal.returns
returns c = nothing_given (laws_of c.record_laws.ensures)
