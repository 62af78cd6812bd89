use Rattle.csvw_rows.proofs.GivenLaws.{given_first_later}
use Rattle.csvw_records.specs.RecordLaws.{laws_of}
use Rattle.csvw_rows.proofs.laws.given_first_later.Goals as goal

pub returns : goal.returns
returns c = given_first_later (laws_of c.record_laws.ensures)
