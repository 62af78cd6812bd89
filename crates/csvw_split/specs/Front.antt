-- The front of a file that makes the columns of its table known: `IsFront`, `HasFront` (Model for Tabular Data, section 8).
use Rattle.std.specs.Prelude.{◌≤◌, ◌==◌, ℕ, if◌then◌else◌, List, length, take}
use Rattle.csvw_records.specs.Files.{Row, remaining}
use Rattle.csvw_columns.specs.declared.plan.TablePlan.{TablePlan}
use Rattle.csvw_part_laws.specs.Parts.{AreWholeRows}

-- how many header rows and data rows make the columns known: the header rows or, without them, the first data row
abbrev pub front_rows : TablePlan → ℕ
front_rows t = if t.dialect.header_row_count == 0 then 1 else t.dialect.header_row_count

-- so many bytes at the start of the file are whole rows: at least the skipped rows, and those that make the columns known
pub record IsFront (t : TablePlan) (text : List ℕ) (front : ℕ) : Type 0 where
  pub within : front ≤ length text
  pub rows : List Row
  pub whole : AreWholeRows t.dialect (take front text) rows
  pub skipped : t.dialect.skip_rows ≤ length rows
  pub given : front_rows t ≤ length (remaining t.dialect 1 rows)

-- they end at this place or before it
pub record HasFront (t : TablePlan) (text : List ℕ) (front place : ℕ) : Type 0 where
  pub is_front : IsFront t text front
  pub before : front ≤ place
