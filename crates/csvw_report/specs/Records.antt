-- The state of a writer of records between two records.
use Rattle.std.specs.Prelude.{◌≡◌, false}
use Rattle.csv.specs.Writing.{default_writer, fields_written, has_written, writer_setup}
use Rattle.csv.specs.declared.writer.Writer.{Writer}

-- it writes by the defaults, and is at the start of a record
pub record IsReady {W : Type 0} (rows : Writer W) : Type 0 where
  pub no_field : fields_written rows ≡ 0
  pub no_byte : has_written rows ≡ false
  pub setup : writer_setup rows ≡ default_writer
