-- The state of a reader of rows: all bytes so far, whether they ended, and the rows that it returned.
use Rattle.std.specs.Prelude.{◌≡◌, ◌≢◌, ◌⊎◌, ℕ, ◌+◌, ◌-◌, ◌<◌, ◌≤◌, Bool, true, false, not, ◌&&◌, ◌||◌, ◌==◌, if◌then◌else◌, List, [], ◌∷◌, ◌++◌}
use Rattle.std.specs.Prelude.{take, drop, length, map, chars, encode_utf8_all, Option, Some, None, Result, Ok, Err}
use Rattle.csvw_records.specs.declared.dialect.Dialect.{Dialect}
use Rattle.csvw_rows.specs.declared.rows.Rows.{Rows}
use Rattle.csvw_records.specs.declared.stop.RowStop.{RowStop}
use Rattle.csvw_records.specs.declared.stop.RowStop.TheVariants.{Memory}
use Rattle.csvw_rows.specs.declared.next.After.{After}
use Rattle.csvw_rows.specs.declared.next.After.TheVariants.{More, Nothing, NoText}
use Rattle.csvw_rows.specs.declared.next.Turn.{Turn}
use Rattle.csvw_rows.specs.declared.next.Turn.TheVariants as turn
use Rattle.csvw_fields.specs.Bounds.{fields_at}
use Rattle.csvw_records.specs.Files.{is_ignored, Row, AreRows, EndsOpen, KeepsLimits, IsWhole, Front, Body, content, is_text, remaining}
use Rattle.csvw_records.specs.RowValue.{Given}
use Rattle.csvw_rows.specs.SourceState.{text_items, rest_bytes, rest_of, is_bad_of, pending_of, begun_of, Decodes}
use Rattle.csvw_records.specs.Grammar.{trimmed}
use Rattle.csvw_records.specs.NextRow.{settled, line_of, may_be_comment}
use Rattle.csvw_rows.specs.IgnoredRows.{NoneBegins}
use Rattle.csvw_rows.specs.NextRows.{Waits, StopGives, TakesRow, is_last}
use Rattle.csvw_records.specs.Lengths.{byte_len}
use Rattle.csvw_records.specs.AtFront.{IsWrong}
use Rattle.csvw_records.specs.PartOfRow.{Continues, Goes, NoRow}
use Rattle.csvw_records.specs.Scan.{Found, pass, is_quoted}
use Rattle.csvw_fields.specs.Drafts.{read_of, state_of}
use Rattle.csvw_rows.specs.declared.next.Known.{Known}
use Rattle.csvw_rows.specs.declared.next.Known.TheVariants as known
use Rattle.csvw_records.specs.declared.scan.State.TheVariants.{Start}
use Rattle.csvw_records.specs.Stops.{Begins, StopOf}
use Rattle.std.specs.Str.{is_utf8}

-- whether the text has ended
abbrev pub is_ended_of : Rows → Bool
is_ended_of s = s.ended

-- the stop that was returned, if there was one
abbrev pub stop_of : Rows → Option RowStop
stop_of s = s.stop

-- the source number of the row that is being read
abbrev pub reading_of : Rows → ℕ
reading_of s = s.row + 1

-- the number of characters that aren't read; each row that is given makes it smaller
abbrev pub unread : Rows → ℕ
unread s = length (rest_of s.source)

-- what comes after the characters that there are
abbrev pub after_of : Rows → After
after_of s = if is_bad_of s.source || (s.ended && not (length (pending_of s.source) == 0)) then NoText else (if s.ended then Nothing else More)

-- these rows were read of the bytes, up to what is left
pub record HasRead (d : Dialect) (max : ℕ) (bytes : List ℕ) (ended : Bool) (rest : List ℕ) (rows : List Row) : Type 0 where
  pub limits : KeepsLimits max rows
  pub reached : AreRows d 0 (content bytes) rows rest
      ⊎ ((ended ≡ true) × (is_text bytes ≡ true) × EndsOpen d (content bytes) rows × (rest ≡ []) × Begins d max (content bytes))

-- no stop was returned, and these rows were given
pub record Holds (s : Rows) (d : Dialect) (max : ℕ) (bytes : List ℕ) (ended : Bool) (given : List Given) : Type 0 where
  pub dialect : s.rules.dialect ≡ d
  pub max_is : s.max_rows ≡ max
  pub ended_is : s.ended ≡ ended
  pub no_stop : s.stop ≡ None
  pub decodes : Decodes s.source bytes
  pub rows : List Row
  pub read : HasRead d max bytes ended (rest_of s.source) rows
  pub row_is : s.row ≡ length rows
  pub remained_is : s.remained ≡ length (remaining d 1 rows)
  pub given_is : given ≡ Body d rows

-- the texts of the fields that were read last
abbrev pub fields_of : Rows → List (List ℕ)
fields_of s = fields_at (text_items s.source) s.spare.items s.fields.items

-- the row that was read last
abbrev pub last_of : Rows → Given
last_of s = record { fields = drop s.rules.dialect.skip_columns (fields_of s); source = s.row; number = s.remained - s.rules.dialect.header_row_count }

-- all rows of the front were given
pub record HasGiven (d : Dialect) (max : ℕ) (bytes : List ℕ) (ended : Bool) (given : List Given) : Type 0 where
  pub front : List Row
  pub is_front : Front d max bytes ended front
  pub all : given ≡ Body d front

abbrev pub NoStop : Dialect → ℕ → List ℕ → Bool → Type 0
NoStop d max bytes ended = (stop : RowStop) (row : ℕ) → StopOf d max bytes ended stop row → ⊥

-- the state if nothing changes
abbrev pub Stays : Rows → Rows → Type 0
Stays old new = (d : Dialect) (max : ℕ) (bytes : List ℕ) (ended : Bool) (given : List Given) → Holds old d max bytes ended given
    → Holds new d max bytes ended given

-- one more row is given
abbrev pub Gives : Rows → Rows → Given → Type 0
Gives old new row = (d : Dialect) (max : ℕ) (bytes : List ℕ) (ended : Bool) (given : List Given) → Holds old d max bytes ended given
    → Holds new d max bytes ended (given ++ row ∷ [])

-- all rows were given, there is no stop, and at the end the bytes are a file
abbrev pub IsDone : Rows → Type 0
IsDone old = (d : Dialect) (max : ℕ) (bytes : List ℕ) (ended : Bool) (given : List Given) → Holds old d max bytes ended given
    → HasGiven d max bytes ended given × NoStop d max bytes ended × (ended ≡ true → IsWhole d max bytes)

-- the source number of the row that is being read is the number of complete rows plus one
abbrev pub IsReading : Rows → ℕ → Type 0
IsReading old row = (d : Dialect) (max : ℕ) (bytes : List ℕ) (ended : Bool) (given : List Given) → Holds old d max bytes ended given
    → (front : List Row) × Front d max bytes ended front × (row ≡ length front + 1)

-- all rows were given, and the stop is after them; of `Memory` nothing is said
abbrev pub IsStopped : Rows → RowStop → ℕ → Type 0
IsStopped old stop row = stop ≢ Memory → (d : Dialect) (max : ℕ) (bytes : List ℕ) (ended : Bool) (given : List Given) → Holds old d max bytes ended given
    → HasGiven d max bytes ended given × StopOf d max bytes ended stop row

-- a stop that is returned stays: every later call returns it, and the row that is being read stays the same
abbrev pub KeepsStop : {T : Type 0} → Rows → Rows → Result T RowStop → Type 0
KeepsStop old new (Ok x) = (stop_of old ≡ None) × (stop_of new ≡ None)
KeepsStop old new (Err e) = (stop_of new ≡ Some e) × ((stop : RowStop) → stop_of old ≡ Some stop → (stop ≡ e) × (reading_of new ≡ reading_of old))

-- after a call that takes some more bytes
abbrev pub Feeds : Rows → Rows → List ℕ → Result Unit RowStop → Type 0
Feeds old new piece (Ok x) = (d : Dialect) (max : ℕ) (bytes : List ℕ) (given : List Given) → Holds old d max bytes false given
    → Holds new d max (bytes ++ piece) false given
Feeds old new piece (Err e) = (stop_of old ≡ Some e) ⊎ (e ≡ Memory)

-- after a call that ends the text
abbrev pub Closes : Rows → Rows → Result Unit RowStop → Type 0
Closes old new (Ok x) = (d : Dialect) (max : ℕ) (bytes : List ℕ) (given : List Given) → Holds old d max bytes false given → Holds new d max bytes true given
Closes old new (Err e) = stop_of old ≡ Some e

-- after a call that reads up to a row that is given
abbrev pub Advances : Rows → Rows → Result Bool RowStop → Type 0
Advances old new (Ok true) = (is_ended_of new ≡ is_ended_of old) × (unread new < unread old) × Gives old new (last_of new)
Advances old new (Ok false) = (is_ended_of new ≡ is_ended_of old) × Stays old new × IsDone old × IsReading old (reading_of new)
Advances old new (Err e) = (is_ended_of new ≡ is_ended_of old) × IsStopped old e (reading_of new)

-- after a call that reads one more row
abbrev pub Turns : Rows → Rows → Result Turn RowStop → Type 0
Turns old new (Ok turn.Given) = (is_ended_of new ≡ is_ended_of old) × (unread new < unread old) × Gives old new (last_of new)
Turns old new (Ok turn.Passed) = (is_ended_of new ≡ is_ended_of old) × (unread new < unread old) × Stays old new
Turns old new (Ok turn.Waits) = (is_ended_of new ≡ is_ended_of old) × Stays old new × IsDone old × IsReading old (reading_of new)
Turns old new (Err e) = (is_ended_of new ≡ is_ended_of old) × IsStopped old e (reading_of new)

-- all but the text that isn't taken, the fields and the number of rows that remained stays, and one more row is read
pub record Passes (old new : Rows) (len : ℕ) : Type 0 where
  pub rules : new.rules ≡ old.rules
  pub max_rows : new.max_rows ≡ old.max_rows
  pub ended : new.ended ≡ old.ended
  pub stop : new.stop ≡ old.stop
  pub rest : rest_of new.source ≡ drop len (rest_of old.source)
  pub begun : begun_of new.source ≡ begun_of old.source
  pub pending : pending_of new.source ≡ pending_of old.source
  pub bad : is_bad_of new.source ≡ is_bad_of old.source
  pub row : new.row ≡ old.row + 1

-- so many bytes are so many characters at the front
pub record AreFront (s : Rows) (bytes len : ℕ) : Type 0 where
  pub within : bytes ≤ length (rest_bytes s.source)
  pub is_text : is_utf8 (drop bytes (rest_bytes s.source)) ≡ true
  pub same : chars (drop bytes (rest_bytes s.source)) ≡ drop len (rest_of s.source)

-- a row of so many bytes is at the front, with these fields
pub record HasRow (s : Rows) (bytes : ℕ) (fields : Option (List (List ℕ))) : Type 0 where
  pub len : ℕ
  pub front : AreFront s bytes len
  pub takes : TakesRow (is_last (after_of s)) s.rules.dialect s.max_rows s.row (rest_of s.source) len fields

-- the fields of a row at the front were found
pub record HasFields (s : Rows) (bytes : ℕ) : Type 0 where
  pub values : List (List ℕ)
  pub row : HasRow s bytes (Some (map (trimmed s.rules.dialect.trim) values))
  pub texts : fields_of s ≡ map (λ x. encode_utf8_all (trimmed s.rules.dialect.trim x)) values

-- all but the fields stays
pub record Refills (old new : Rows) : Type 0 where
  pub rules : new.rules ≡ old.rules
  pub max_rows : new.max_rows ≡ old.max_rows
  pub ended : new.ended ≡ old.ended
  pub stop : new.stop ≡ old.stop
  pub source : new.source ≡ old.source
  pub row : new.row ≡ old.row
  pub remained : new.remained ≡ old.remained

-- the row at the front has fields, and isn't one too many
pub record IsReadable (s : Rows) : Type 0 where
  pub some : rest_of s.source ≢ []
  pub few : s.row < s.max_rows
  pub not_ignored : is_ignored s.rules.dialect s.row (rest_of s.source) ≡ false
  pub may_not : is_last (after_of s) ≡ false → may_be_comment s.rules.dialect (rest_of s.source) ≡ false

-- the row at the front ends after so many bytes, and its fields were found
pub record IsReadRow (s : Rows) (len : ℕ) : Type 0 where
  pub values : List (List ℕ)
  pub within : len ≤ length (rest_bytes s.source)
  pub back : is_utf8 (drop len (rest_bytes s.source)) ≡ true
  pub found : pass (is_last (after_of s)) s.rules.dialect Start [] [] (rest_of s.source) ≡ Found values (chars (drop len (rest_bytes s.source)))
  pub texts : fields_of s ≡ map (λ x. encode_utf8_all (trimmed s.rules.dialect.trim x)) values

-- a rule is broken in the row at the front, as so many bytes show
pub record IsWrongRow (s : Rows) (len : ℕ) (stop : RowStop) : Type 0 where
  pub count : ℕ
  pub wrong : IsWrong (is_last (after_of s)) s.rules.dialect s.row (rest_of s.source) count stop
  pub bytes : byte_len (take count (rest_of s.source)) ≡ len

-- no row is complete at the front, and the text there may become one
abbrev pub WaitsThere : Rows → Type 0
WaitsThere s = Goes s.rules.dialect s.max_rows s.row (rest_of s.source) × NoRow s.rules.dialect s.max_rows s.row (rest_of s.source)
    × (after_of s ≡ Nothing → rest_of s.source ≡ [])

-- no row is complete at the front, and so many bytes belong to the next one for sure
pub record IsOpenFront (s : Rows) (len : ℕ) : Type 0 where
  pub some : rest_of s.source ≢ []
  pub few : s.row < s.max_rows
  pub goes_on : is_last (after_of s) ≡ false
  pub count : ℕ
  pub continues : Continues s.rules.dialect s.row (rest_of s.source) count
  pub bytes : byte_len (take count (rest_of s.source)) ≡ len

-- the row at the front, which isn't known to be a comment, may become one
abbrev pub may_become_comment : Rows → Bool
may_become_comment s = not (is_last (after_of s)) && may_be_comment s.rules.dialect (rest_of s.source)

-- a skipped row or a comment is at the front, which isn't one too many
pub record IsIgnoredNext (s : Rows) : Type 0 where
  pub some : rest_of s.source ≢ []
  pub few : s.row < s.max_rows
  pub ignored : is_ignored s.rules.dialect s.row (rest_of s.source) ≡ true

-- it ends after so many bytes
pub record IsIgnoredRead (s : Rows) (len : ℕ) : Type 0 where
  pub within : len ≤ length (rest_bytes s.source)
  pub back : is_utf8 (drop len (rest_bytes s.source)) ≡ true
  pub line : line_of (is_last (after_of s)) s.rules.dialect (rest_of s.source) ≡ Some (chars (drop len (rest_bytes s.source)))

-- no terminator is there
abbrev pub HasNoEnd : Rows → Type 0
HasNoEnd s = NoneBegins s.rules.dialect (rest_bytes s.source) 0 (length (rest_bytes s.source))

abbrev pub EndsIgnored : Rows → Option ℕ → Type 0
EndsIgnored s (Some len) = IsIgnoredRead s len
EndsIgnored s None = HasNoEnd s × (is_last (after_of s) ≡ false)

-- so many bytes are all but a CR at the end that may begin a terminator
pub record IsSettledLen (s : Rows) (len : ℕ) : Type 0 where
  pub bytes : len ≡ length (settled s.rules.dialect (rest_bytes s.source))
  pub chars : chars (take len (rest_bytes s.source)) ≡ settled s.rules.dialect (rest_of s.source)
  pub text : is_utf8 (take len (rest_bytes s.source)) ≡ true

-- how many bytes of an unfinished row belong to it for sure
abbrev pub sure_of : Rows → ℕ
sure_of s = if is_quoted (state_of s.draft) then length (rest_bytes s.source) else read_of s.draft

-- what the bytes at the front are known to be
abbrev pub IsKnown : Rows → Known → Type 0
IsKnown s (known.Row len) = HasFields s len
IsKnown s (known.Ignored len) = HasRow s len None
IsKnown s known.Waits = Waits (after_of s) s.rules.dialect s.max_rows s.row (rest_of s.source)
IsKnown s (known.Stop stop) = StopGives (after_of s) s.rules.dialect s.max_rows s.row (rest_of s.source) stop
