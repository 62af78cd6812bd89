-- Which groups of annotated tables are valid: `IsValid` (Model for Tabular Data, section 6.6; Metadata Vocabulary for Tabular
-- Data, sections 5.5 and 5.6). Each table has its header, no cell has a code, no two rows have equal primary keys, and each row
-- that refers equals one row.
use Rattle.std.specs.Prelude.{◌≡◌, ◌⊎◌, ◌≤◌, ◌+◌, ℕ, zero, suc, true, false, List, [], ◌∷◌, length, map, count_by, slice_get, Some}
use Rattle.std.specs.List.{All}
use Rattle.csvw_records.specs.Files.{Row as FileRow, File, Body}
use Rattle.csvw_columns_core.specs.Columns.{field_count}
use Rattle.csvw_columns_core.specs.HeaderFits.{fits}
use Rattle.csvw_columns_core.specs.declared.column.Column.{Column}
use Rattle.csvw_columns_core.specs.declared.header.HeaderRow.{HeaderRow}
use Rattle.csvw_columns.specs.declared.plan.Plan.{Plan}
use Rattle.csvw_columns.specs.declared.plan.TablePlan.{TablePlan}
use Rattle.csvw_annotate.specs.declared.row.Row.{Row}
use Rattle.csvw_keys.specs.EqualKeys.{equal_keys}
use Rattle.csvw_keys.specs.Key.{is_null_key, key_of}
use Rattle.csvw_keys.specs.KeyRules.{KeyRule, Unique, Refers, Recorded, rules_of}
use Rattle.csvw_keys.specs.declared.key.KeyCell.{KeyCell}
use Rattle.csvw_engine_core.specs.Annotated.{header_count, header_rows}
use Rattle.csvw_engine_core.specs.Tables.{max_rows}
use Rattle.csvw_group_laws.specs.Annotated.{Table}
use Rattle.csvw_group_laws.specs.Violations.{rows_of}

-- each column fits the header rows, beginning with the column at place i, from 0
abbrev pub EachFits : List HeaderRow → ℕ → List Column → Type 0
EachFits rows i [] = Unit {0}
EachFits rows i (column ∷ columns) = (fits column rows i ≡ true) × EachFits rows (i + 1) columns

-- there are at least so many header rows, each has as many fields as there are columns that are not virtual, and the columns fit them
pub record FitsHeader (wanted : ℕ) (columns : List Column) (rows : List HeaderRow) : Type 0 where
  pub there : wanted ≤ length rows
  pub wide : All (λ row. length row.cells ≡ field_count columns) rows
  pub fit : EachFits rows 0 columns

-- a table whose dialect has no header rows has no header to fit
abbrev pub HasHeader : ℕ → List Column → List HeaderRow → Type 0
HasHeader zero columns rows = Unit {0}
HasHeader (suc n) columns rows = FitsHeader (suc n) columns rows

-- no cell has a code
abbrev pub IsSoundRow : Row → Type 0
IsSoundRow row = All (λ cell. cell.faults ≡ []) row.cells

-- a table of this text, which is a file: it has its header, and none of its cells has a code
pub record IsValidTable (plan : TablePlan) (text : List ℕ) (table : Table) : Type 0 where
  pub file : List FileRow
  pub is_file : File plan.dialect max_rows text file
  pub header : HasHeader (header_count plan) table.columns.columns (header_rows plan (Body plan.dialect file))
  pub cells : All IsSoundRow table.rows

-- no two keys are equal
abbrev pub AreApart : List (List KeyCell) → Type 0
AreApart [] = Unit {0}
AreApart (key ∷ keys) = All (λ other. equal_keys other key ≡ false) keys × AreApart keys

-- a row whose key cells aren't all null equals exactly one row of the referenced table
abbrev pub RefersToOne : List (List KeyCell) → List KeyCell → Type 0
RefersToOne keys key = (is_null_key key ≡ true) ⊎ (count_by (equal_keys key) keys ≡ 1)

-- No two rows of a table have equal key cells. Each row that refers to others refers to one. What is recorded asks nothing of the rows.
abbrev pub Keeps : (ℕ → List Row) → KeyRule → Type 0
Keeps tables (Unique table columns) = AreApart (map (key_of columns) (tables table))
Keeps tables (Refers table columns referenced_table referenced) =
    All (λ row. RefersToOne (map (key_of referenced) (tables referenced_table)) (key_of columns row)) (tables table)
Keeps tables (Recorded table columns) = Unit {0}

-- each table is valid by itself, and the rows of all tables keep the keys of the plan
pub record IsValid (plan : Plan) (texts : ℕ → List ℕ) (tables : List Table) : Type 0 where
  pub each : (i : ℕ) (p : TablePlan) (table : Table) → slice_get plan.tables i ≡ Some p → slice_get tables i ≡ Some table
      → IsValidTable p (texts i) table
  pub keys : All (Keeps (rows_of tables)) (rules_of plan)
