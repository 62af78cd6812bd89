-- A piece of a table after bytes that were read, after rows that another part reads, and at its end: `ReadsPart`, `SkipsPart`,
-- `EndsPart`, `EndsAtRow`.
use Rattle.std.specs.Prelude.{◌≡◌, ◌<◌, ◌+◌, ℕ, Bool, false, List, [], ◌++◌, length, Option, Result, Ok, Err}
use Rattle.std.specs.Io.KnownBytes.{Consumes, IsAtEnd}
use Rattle.csvw_records.specs.Files.{Body, remaining}
use Rattle.csvw_records.specs.Files.{Row as Record}
use Rattle.csvw_records.specs.RowValue.{Given}
use Rattle.csvw_part_laws.specs.Parts.{AreWholeRows}
use Rattle.csvw_streams.specs.declared.counted.Counted.{Counted}
use Rattle.csvw_streams.specs.Count.{one_more}
use Rattle.csvw_streams.specs.Counted.{inner_of, failures_of}
use Rattle.csvw_columns.specs.declared.plan.TablePlan.{TablePlan}
use Rattle.csvw_annotate.specs.declared.row.Row.{Row}
use Rattle.csvw_triples_core.specs.Taking.{IsAsReady}
use Rattle.csvw_triples_core.specs.declared.mode.Mode.{Mode}
use Rattle.csvw_triples_core.specs.declared.term.Triple.{Triple}
use Rattle.csvw_rows.specs.Skips.{remained_of, unread_bytes_of}
use Rattle.csvw_engine_core.specs.Annotated.{header_count}
use Rattle.csvw_engine_core.specs.Tables.{TableHolds, TableOutcome, EndOutcome, Gone, Outlets, is_ended}
use Rattle.csvw_engine_core.specs.declared.stop.Stop.{Stop}
use Rattle.csvw_engine_core.specs.declared.table.Table.{Table}
use Rattle.csvw_parts.specs.declared.fault.PartFault.{PartFault}
use Rattle.csvw_parts.specs.declared.fault.PartFault.TheVariants as fault
use Rattle.csvw_parts.specs.declared.part.TablePart.{TablePart}

-- The text of a table goes on with these bytes, and the rows that they complete were given. The sink is open or closed as before.
abbrev pub GoesOn : {S : Type 0} → (S → List Triple → S → Type 0) → (S → Bool) → (S → ℕ) → TablePlan → Table → Table → Outlets S → Outlets S → List ℕ
    → Type 0
GoesOn gains is_open failed plan old new before now text = (mode : Mode) (bytes : List ℕ) (given : List Given) (rows : List Row)
    → TableHolds plan mode old bytes false given rows
    → Gone gains plan mode (bytes ++ text) false given rows old new before now × IsAsReady is_open failed before.sink now.sink

-- The reader gave these bytes, and the table goes on with them.
pub record ReadsBytes {R S : Type 0} (gains : S → List Triple → S → Type 0) (is_open : S → Bool) (failed : S → ℕ) (remaining : R → Option (List ℕ))
    (plan : TablePlan) (old new : Table) (reader next : Counted R) (before now : Outlets S) (text : List ℕ) : Type 0 where
  pub consumed : Consumes (remaining (inner_of reader)) (remaining (inner_of next)) text
  pub goes_on : GoesOn gains is_open failed plan old new before now text
  pub not_ended : is_ended new ≡ false

-- The reader gave some bytes, with which the table goes on, and then a piece, at which it stops.
pub record StopsAtPiece {R S : Type 0} (gains : S → List Triple → S → Type 0) (cuts : S → Triple → S → Type 0) (is_open : S → Bool) (failed : S → ℕ)
    (remaining : R → Option (List ℕ)) (plan : TablePlan) (old new : Table) (reader next : Counted R) (before now : Outlets S) (count : ℕ) (reason : Stop)
    : Type 0 where
  pub text : List ℕ
  pub piece : List ℕ
  pub within : length (text ++ piece) < count + 1
  pub consumed : Consumes (remaining (inner_of reader)) (remaining (inner_of next)) (text ++ piece)
  pub middle : Table
  pub between : Outlets S
  pub goes_on : GoesOn gains is_open failed plan old middle before between text
  pub stops : (mode : Mode) (bytes : List ℕ) (given : List Given) (rows : List Row) → TableHolds plan mode middle bytes false given rows
      → TableOutcome gains cuts is_open failed plan mode (bytes ++ piece) false given rows middle new between now (Err reason)

-- After so many bytes were read, or the reason why not. After Memory nothing was read.
abbrev pub ReadsPart : {R S : Type 0} → (S → List Triple → S → Type 0) → (S → Triple → S → Type 0) → (S → Bool) → (S → ℕ) → (R → Option (List ℕ))
    → TablePlan → Table → Table → Counted R → Counted R → ℕ → Outlets S → Outlets S → Result Unit PartFault → Type 0
ReadsPart gains cuts is_open failed remaining plan old new reader next count before now (Ok u) = (text : List ℕ) × (length text ≡ count)
    × ReadsBytes gains is_open failed remaining plan old new reader next before now text
ReadsPart gains cuts is_open failed remaining plan old new reader next count before now (Err fault.Memory) =
    (new ≡ old) × (next ≡ reader) × (now ≡ before)
ReadsPart gains cuts is_open failed remaining plan old new reader next count before now (Err fault.Read) = (text : List ℕ) × (length text < count)
    × ReadsBytes gains is_open failed remaining plan old new reader next before now text × (failures_of next ≡ one_more (failures_of reader))
ReadsPart gains cuts is_open failed remaining plan old new reader next count before now (Err fault.ShortFile) = (text : List ℕ) × (length text < count)
    × ReadsBytes gains is_open failed remaining plan old new reader next before now text × IsAtEnd (remaining (inner_of next))
ReadsPart gains cuts is_open failed remaining plan old new reader next count before now (Err (fault.Stop reason)) =
    StopsAtPiece gains cuts is_open failed remaining plan old new reader next before now count reason

-- After the end of the table.
abbrev pub EndsPart : {S : Type 0} → (S → List Triple → S → Type 0) → (S → Triple → S → Type 0) → (S → Bool) → (S → ℕ) → TablePlan → Table → Table
    → Outlets S → Outlets S → Result Unit Stop → Type 0
EndsPart gains cuts is_open failed plan old new before now result = (mode : Mode) (bytes : List ℕ) (given : List Given) (rows : List Row)
    → TableHolds plan mode old bytes false given rows → EndOutcome gains cuts is_open failed plan mode bytes given rows old new before now result

-- A row ends where reading ended, after so many rows of all kinds, and so many data rows. If there is a row, the bytes so far are whole rows,
-- which were given.
abbrev pub EndsAtRow : TablePart → ℕ → ℕ → Type 0
EndsAtRow part rows data_rows = (mode : Mode) (bytes : List ℕ) (given : List Given) (annotated : List Row)
    → TableHolds part.plan.now mode part.table bytes false given annotated → 0 < rows
    → (whole : List Record) × AreWholeRows part.plan.now.dialect bytes whole × (Body part.plan.now.dialect whole ≡ given) × (length whole ≡ rows)
    × (header_count part.plan.now + data_rows ≡ length (remaining part.plan.now.dialect 1 whole))

-- If no row of any kind was read, none was given, and there is no header row or data row.
abbrev pub HasNoRow : TablePart → ℕ → ℕ → Type 0
HasNoRow part rows data_rows = (mode : Mode) (bytes : List ℕ) (given : List Given) (annotated : List Row)
    → TableHolds part.plan.now mode part.table bytes false given annotated → rows ≡ 0
    → (given ≡ []) × (header_count part.plan.now + data_rows ≡ 0)

-- bytes are unread, or there are too few rows for the header
abbrev pub IsNoRowEnd : TablePart → Type 0
IsNoRowEnd part = unread_bytes_of part.table.rows ≡ 0 → remained_of part.table.rows < header_count part.plan.now
