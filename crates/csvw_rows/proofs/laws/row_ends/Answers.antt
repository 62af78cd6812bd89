-- By the laws of records.
use Rattle.csvw_rows.proofs.RowEnds.{row_ends}
use Rattle.csvw_records.specs.RecordLaws.{laws_of}
use Rattle.csvw_rows.proofs.laws.row_ends.Goals as goal

pub returns : goal.returns
returns c = row_ends (laws_of c.record_laws.ensures)
