-- The columns of a table once its header is known: `Matches` (Metadata Vocabulary for Tabular Data, sections 5.6 and 6.4; Model
-- for Tabular Data, section 8).
use Rattle.std.specs.Prelude.{◌≡◌, ◌≤◌, ℕ, List, [], ◌∷◌, length, Option, Result, Ok, Err}
use Rattle.std.specs.declared.vec.Vec.{Vec}
use Rattle.std.specs.declared.alloc.Global.{Global}
use Rattle.csvw_fault.specs.declared.fault.Fault.{Fault}
use Rattle.csvw_iri.specs.Link.{iri_of}
use Rattle.csvw_columns_core.specs.HeaderColumns.{from_header}
use Rattle.csvw_columns_core.specs.HeaderFits.{header_faults}
use Rattle.csvw_description.specs.Plannable.{column_limit}
use Rattle.csvw_columns_core.specs.SchemaColumns.{declared_columns}
use Rattle.csvw_columns_core.specs.declared.column.Column.{Column}
use Rattle.csvw_columns_core.specs.declared.columns.Columns.{Columns}
use Rattle.csvw_columns_core.specs.declared.declared.Frame.{Frame}
use Rattle.csvw_columns_core.specs.declared.header.HeaderRow.{HeaderRow}
use Rattle.csvw_columns.specs.Distinct.{AreNamedApart}
use Rattle.csvw_columns.specs.declared.plan.TablePlan.{TablePlan}
use Rattle.csvw_columns_core.specs.declared.table_stop.TableStop.{TableStop}
use Rattle.csvw_columns_core.specs.declared.table_stop.TableStop.TheVariants.{Memory, DuplicateName, TooManyColumns}

-- what the columns have in common from the table
abbrev pub frame_of : TablePlan → Frame
frame_of plan = record { url = plan.url; skip_columns = plan.dialect.skip_columns; schema = plan.schema; table = plan.table }

-- the columns that come from the header
abbrev pub header_columns : TablePlan → List HeaderRow → Option ℕ → List Column
header_columns plan rows width =
    declared_columns (iri_of plan.url) plan.dialect.skip_columns plan.schema plan.table plan.group (from_header rows width)

-- the declared columns, if there are some
abbrev pub declared_or : List Column → List Column → List Column
declared_or [] others = others
declared_or (c ∷ cs) others = c ∷ cs

-- the columns of the table
abbrev pub columns_of : TablePlan → List HeaderRow → Option ℕ → List Column
columns_of plan rows width = declared_or plan.declared (header_columns plan rows width)

-- no more columns than the limit
abbrev pub IsWithin : TablePlan → List HeaderRow → Option ℕ → Type 0
IsWithin plan rows width = length (columns_of plan rows width) ≤ column_limit

-- the columns and the faults of the header
pub record IsMatch (plan : TablePlan) (rows : List HeaderRow) (width : Option ℕ) (found : Columns) (told : List Fault) : Type 0 where
  pub within : IsWithin plan rows width
  pub names : AreNamedApart (columns_of plan rows width)
  pub columns : found ≡ record { columns = columns_of plan rows width; url = plan.url; id = plan.id; suppressed = plan.suppressed }
  pub faults : told ≡ header_faults plan.number plan.dialect.header_row_count (columns_of plan rows width) rows

-- two columns have the same name, and the limit is kept
pub record IsRepeated (plan : TablePlan) (rows : List HeaderRow) (width : Option ℕ) : Type 0 where
  pub within : IsWithin plan rows width
  pub names : AreNamedApart (columns_of plan rows width) → ⊥

-- the result is the columns and the faults, or why there are none; nothing is said if memory runs out
abbrev pub Matches : TablePlan → List HeaderRow → Option ℕ → Result (Columns × Vec Fault Global) TableStop → Type 0
Matches plan rows width (Ok found) = IsMatch plan rows width found.0 found.1.items
Matches plan rows width (Err TooManyColumns) = IsWithin plan rows width → ⊥
Matches plan rows width (Err DuplicateName) = IsRepeated plan rows width
Matches plan rows width (Err Memory) = Unit {0}
Matches plan rows width (Err other) = ⊥

-- only the columns, if the limit is kept
abbrev pub GivesColumns : TablePlan → List HeaderRow → Option ℕ → Result (List Column) TableStop → Type 0
GivesColumns plan rows width (Ok columns) = IsWithin plan rows width × (columns ≡ columns_of plan rows width)
GivesColumns plan rows width (Err TooManyColumns) = IsWithin plan rows width → ⊥
GivesColumns plan rows width (Err Memory) = Unit {0}
GivesColumns plan rows width (Err other) = ⊥
