-- A table that goes on after rows that are read elsewhere: `SkipsTable`.
use Rattle.std.specs.Prelude.{◌≡◌, ℕ, ◌+◌, ◌<◌, Bool, false, ◌&&◌, is_some, List, [], ◌++◌, length, Option, Some, None}
use Rattle.csvw_records.specs.Files.{Body, remaining}
use Rattle.csvw_records.specs.Files.{Row as Record}
use Rattle.csvw_records.specs.RowValue.{Given}
use Rattle.csvw_part_laws.specs.Parts.{AreWholeRows}
use Rattle.csvw_columns.specs.declared.plan.TablePlan.{TablePlan}
use Rattle.csvw_annotate.specs.declared.row.Row.{Row}
use Rattle.csvw_rows.specs.Skips.{can_skip}
use Rattle.csvw_triples_core.specs.declared.mode.Mode.{Mode}
use Rattle.csvw_engine_core.specs.Annotated.{HasRows, header_count}
use Rattle.csvw_engine_core.specs.Tables.{TableHolds, is_ended}
use Rattle.csvw_engine_core.specs.declared.table.Table.{Table}

-- so many of the header rows and data rows are data rows; there is no number if there are too few for the header
abbrev pub HasDataRows : ℕ → ℕ → Option ℕ → Type 0
HasDataRows headers remained None = remained < headers
HasDataRows headers remained (Some count) = headers + count ≡ remained

-- its columns are known, and its reader can go on there
abbrev pub can_skip_table : TablePlan → Table → ℕ → ℕ → Bool
can_skip_table plan t rows data_rows = is_some t.head.columns && can_skip t.rows rows (header_count plan + data_rows)

-- The text so far and some more are whole rows of these numbers, which are annotated rows of the table. After the call the text is
-- both, and the table has these rows. The faults of cells are those of later rows.
pub record SkipsTable (plan : TablePlan) (old new : Table) (rows data_rows : ℕ) : Type 0 where
  pub goes_on : (mode : Mode) (bytes between : List ℕ) (given : List Given) (so_far all : List Row) (whole : List Record)
      → TableHolds plan mode old bytes false given so_far → AreWholeRows plan.dialect (bytes ++ between) whole → rows ≡ length whole
      → header_count plan + data_rows ≡ length (remaining plan.dialect 1 whole) → HasRows plan old.head.columns (Body plan.dialect whole) all
      → TableHolds plan mode new (bytes ++ between) false (Body plan.dialect whole) all
  pub not_ended : is_ended new ≡ false
  pub head : new.head ≡ old.head
  pub faults : new.faults ≡ []
