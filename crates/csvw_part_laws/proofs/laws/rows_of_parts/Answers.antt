-- By the laws of records.
use Rattle.csvw_records.specs.RecordLaws.{laws_of}
use Rattle.csvw_part_laws.proofs.Rows.{rows_of_parts}
use Rattle.csvw_part_laws.proofs.laws.rows_of_parts.Goals as goal

pub returns : goal.returns
returns c = rows_of_parts (laws_of c.record_laws.ensures)
