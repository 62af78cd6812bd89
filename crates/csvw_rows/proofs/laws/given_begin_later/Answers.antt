use Rattle.csvw_rows.proofs.GivenLaws.{given_begin_later}
use Rattle.csvw_records.specs.RecordLaws.{laws_of}
use Rattle.csvw_rows.proofs.laws.given_begin_later.Goals as goal

pub returns : goal.returns
returns c = given_begin_later (laws_of c.record_laws.ensures)
