use Rattle.csvw_rows.proofs.GivenLaws.{given_begin}
use Rattle.csvw_records.specs.RecordLaws.{laws_of}
use Rattle.csvw_rows.proofs.laws.given_begin.Goals as goal

pub returns : goal.returns
returns c = given_begin (laws_of c.record_laws.ensures)
