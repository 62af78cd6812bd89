-- The state of a reader after the loan of a row, and the row that it lends.
use Rattle.std.specs.Prelude.{◌≡◌, ◌<◌, ⊤, Option, Result, Ok, Err, Some, None}
use Rattle.std.specs.Borrow.{follows_so, MutBor, Fml}
use Rattle.csvw_rows.specs.declared.rows.Rows.{Rows}
use Rattle.csvw_rows.specs.declared.raw_row.RawRow.{RawRow}
use Rattle.csvw_records.specs.declared.stop.RowStop.{RowStop}
use Rattle.csvw_rows.specs.contracts.rows.Rows.{the_row}
use Rattle.csvw_rows.specs.RowValue.{row_of}
use Rattle.csvw_rows.specs.RowsState.{is_ended_of, unread, reading_of, Stays, Gives, IsDone, IsReading, IsStopped, stop_of}
use mathlib.Core.Option.{none}

-- The row is given. Or all rows were given, there is no stop, an ended text is a file, and the row that is being read is known. Or there is a stop, which
-- is after all rows unless it is `Memory`. A stop that was returned before is returned again, and the row that is being read stays the same.
abbrev pub Reads : Rows → Rows → Result (Option RawRow) RowStop → Type 0
Reads old new (Ok (Some row)) = (is_ended_of new ≡ is_ended_of old) × (unread new < unread old) × Gives old new (row_of row) × (stop_of old ≡ None)
    × (stop_of new ≡ None)
Reads old new (Ok None) = (is_ended_of new ≡ is_ended_of old) × Stays old new × IsDone old × (stop_of old ≡ None) × (stop_of new ≡ None)
    × IsReading old (reading_of new)
Reads old new (Err e) = (is_ended_of new ≡ is_ended_of old) × IsStopped old e (reading_of new) × (stop_of new ≡ Some e)
    × ((stop : RowStop) → stop_of old ≡ Some stop → (stop ≡ e) × (reading_of new ≡ reading_of old))

abbrev pub RestsAdvanced : MutBor Rows → Result (Option RawRow) RowStop → Fml
RestsAdvanced s r = follows_so the_row the_row s.ghost_name none (λ _ _. ⊤) (λ v. Reads s.now v r)
