-- Annotated tables, and which rows a table refuses: `IsTable`, `IsWholeTable`, `Refuses` (Model for Tabular Data, sections 4.1 to
-- 4.5 and 8).
use Rattle.std.specs.Prelude.{◌≡◌, ◌⊎◌, ◌<◌, ◌≤◌, ◌+◌, ℕ, zero, suc, List, [], ◌∷◌, ◌++◌, length, map, take, drop, Option, Some, None}
use Rattle.csvw_fault.specs.declared.fault.Fault.{Fault}
use Rattle.csvw_records.specs.RowValue.{Given}
use Rattle.csvw_columns_core.specs.declared.header.HeaderRow.{HeaderRow}
use Rattle.csvw_columns_core.specs.declared.columns.Columns.{Columns}
use Rattle.csvw_columns.specs.declared.plan.TablePlan.{TablePlan}
use Rattle.csvw_columns_core.specs.declared.table_stop.TableStop.{TableStop}
use Rattle.csvw_columns_core.specs.declared.table_stop.TableStop.TheVariants as table_stop
use Rattle.csvw_columns.specs.HeaderMatch.{IsMatch, IsRepeated, IsWithin}
use Rattle.csvw_annotate.specs.Annotated.{IsRow, Fits}
use Rattle.csvw_annotate.specs.declared.row.Row.{Row}

-- how many of the first rows are header rows
abbrev pub header_count : TablePlan → ℕ
header_count plan = plan.dialect.header_row_count

abbrev pub header_row : Given → HeaderRow
header_row raw = record { source = raw.source; cells = raw.fields }

-- the first rows of the source are header rows, and the rest are data rows
abbrev pub header_rows : TablePlan → List Given → List HeaderRow
header_rows plan given = map header_row (take (header_count plan) given)

abbrev pub data_rows : TablePlan → List Given → List Given
data_rows plan given = drop (header_count plan) given

-- the number of fields of the first data row, if it is the first row of all
abbrev pub first_width : ℕ → List Given → Option ℕ
first_width zero [] = None
first_width zero (raw ∷ raws) = Some (length raw.fields)
first_width (suc n) given = None

-- the source number of the first row
abbrev pub first_source : List Given → ℕ
first_source [] = 0
first_source (raw ∷ raws) = raw.source

-- the source number of the first header row, or this one if there is none
abbrev pub source_of : List HeaderRow → ℕ → ℕ
source_of [] source = source
source_of (row ∷ rows) source = row.source

-- the columns that the header of these rows makes, and the faults of the header
abbrev pub Heads : TablePlan → List Given → Columns → List Fault → Type 0
Heads plan given columns faults = IsMatch plan (header_rows plan given) (first_width (header_count plan) given) columns faults

-- these header rows make no columns, for this reason
abbrev pub GivesNone : TablePlan → List HeaderRow → Option ℕ → TableStop → Type 0
GivesNone plan rows width table_stop.TooManyColumns = IsWithin plan rows width → ⊥
GivesNone plan rows width table_stop.DuplicateName = IsRepeated plan rows width
GivesNone plan rows width other = ⊥

-- the header of these rows is refused
abbrev pub RefusesHeader : TablePlan → List Given → TableStop → Type 0
RefusesHeader plan given stop = GivesNone plan (header_rows plan given) (first_width (header_count plan) given) stop

-- each data row is annotated, in order
abbrev pub AreAnnotated : Columns → List Given → List Row → Type 0
AreAnnotated columns [] rows = rows ≡ []
AreAnnotated columns (raw ∷ raws) rows =
    (row : Row) × (rest : List Row) × (rows ≡ row ∷ rest) × IsRow columns raw row × AreAnnotated columns raws rest

-- how many rows make the columns known: the header rows or, without them, the first data row
abbrev pub needed : ℕ → ℕ
needed zero = 1
needed (suc n) = suc n

-- the header so far: nothing until enough rows were read, and then the columns and the faults of the header
abbrev pub IsHead : TablePlan → List Given → Option Columns → List Fault → Type 0
IsHead plan given None faults = (length given < needed (header_count plan)) × (faults ≡ [])
IsHead plan given (Some columns) faults = (needed (header_count plan) ≤ length given) × Heads plan given columns faults

-- the rows of the table; there are none before the columns are known
abbrev pub HasRows : TablePlan → Option Columns → List Given → List Row → Type 0
HasRows plan None given rows = rows ≡ []
HasRows plan (Some columns) given rows = AreAnnotated columns (data_rows plan given) rows

-- The rows of a text that goes on are a table so far.
pub record IsTable (plan : TablePlan) (given : List Given) (columns : Option Columns) (faults : List Fault) (rows : List Row) : Type 0 where
  pub head : IsHead plan given columns faults
  pub has : HasRows plan columns given rows

-- The rows of a whole text are a table, whose header may have fewer rows than its dialect says.
pub record IsWholeTable (plan : TablePlan) (given : List Given) (columns : Columns) (faults : List Fault) (rows : List Row) : Type 0 where
  pub head : Heads plan given columns faults
  pub has : AreAnnotated columns (data_rows plan given) rows

-- the next row does not have one field for each column that is not virtual
pub record IsRagged (columns : Columns) (raw : Given) (row : ℕ) (stop : TableStop) : Type 0 where
  pub ragged : Fits columns raw → ⊥
  pub stop_is : stop ≡ table_stop.RaggedRow
  pub row_is : row ≡ raw.source

-- the next row completes the header, which is refused in its first row; or there are no header rows, and this first row does not fit the
-- columns that it makes
abbrev pub RefusesFirst : TablePlan → List Given → Given → ℕ → TableStop → Type 0
RefusesFirst plan given raw row stop =
    (RefusesHeader plan (given ++ raw ∷ []) stop × (row ≡ first_source (given ++ raw ∷ [])))
    ⊎ ((header_count plan ≡ 0) × (columns : Columns) × (faults : List Fault) × Heads plan (given ++ raw ∷ []) columns faults × IsRagged columns raw row stop)

-- the next row of the source is refused
abbrev pub Refuses : TablePlan → List Given → Option Columns → Given → ℕ → TableStop → Type 0
Refuses plan given None raw row stop = (length given + 1 ≡ needed (header_count plan)) × RefusesFirst plan given raw row stop
Refuses plan given (Some columns) raw row stop = IsRagged columns raw row stop

-- the header of a text that ended before all header rows is refused in its first row
pub record RefusesEnd (plan : TablePlan) (given : List Given) (row : ℕ) (stop : TableStop) : Type 0 where
  pub short : length given < needed (header_count plan)
  pub refused : RefusesHeader plan given stop
  pub row_is : row ≡ first_source given
