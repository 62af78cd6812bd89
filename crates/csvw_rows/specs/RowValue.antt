-- The row that a reader lends, as a value.
use Rattle.csvw_fields.specs.Bounds.{fields_at}
use Rattle.csvw_records.specs.RowValue.{Given}
use Rattle.csvw_rows.specs.declared.raw_row.RawRow.{RawRow}

abbrev pub row_of : RawRow → Given
row_of r = record { fields = fields_at r.text.now r.spare.now r.bounds.now; source = r.source; number = r.number }
