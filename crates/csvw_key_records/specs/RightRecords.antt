-- A law of sorted records: no line of theirs is refused: `RightPasses`.
use Rattle.std.specs.Prelude.{◌≡◌, ℕ, true, List, [], ◌++◌, flat_map}
use Rattle.std.specs.List.{All, AllPairs}
use Rattle.csvw_streams.specs.Streams.{Stream}
use Rattle.csvw_key_records.specs.declared.record.KeyRecord.{KeyRecord}
use Rattle.csvw_key_records.specs.declared.record.Role.TheVariants.{Unique}
use Rattle.csvw_key_records.specs.declared.stop.KeyStop.TheVariants.{Line}
use Rattle.csvw_key_records.specs.declared.stop.LineFault.{LineFault}
use Rattle.csvw_key_records.specs.declared.stop.LineFault.TheVariants as fault
use Rattle.csvw_key_records.specs.Groups.{has_unique}
use Rattle.csvw_key_records.specs.Records.{Fits, line_of}
use Rattle.csvw_key_records.specs.Runs.{Halts}
use Rattle.csvw_key_records.specs.Sorted.{AreSorted}

-- two records with one primary key are of rows with other numbers
abbrev pub AreApart : KeyRecord → KeyRecord → Type 0
AreApart p q = q.role ≡ Unique → has_unique q.rule q.key p ≡ true → q.place.row ≡ p.place.row → ⊥

-- sorted records of which no two are of one row with one primary key
pub record AreRight (records : List KeyRecord) : Type 0 where
  pub fit : All Fits records
  pub sorted : AreSorted records
  pub apart : AllPairs AreApart records

-- a run that saw the text before this rest can say so of a line: a last line has no rest, and a line that is too long can be right
abbrev pub IsSeen : List ℕ → LineFault → Type 0
IsSeen rest fault.NoRecord = Unit {0}
IsSeen rest fault.Cut = rest ≡ []
IsSeen rest fault.TooLong = ⊥
IsSeen rest fault.Order = Unit {0}
IsSeen rest fault.Twice = Unit {0}
IsSeen rest fault.Row = Unit {0}

-- no run over a front of the lines of such records stops at a line, unless it is too long
abbrev pub RightPasses : Type 0
RightPasses =
    (records : List KeyRecord) (text rest : List ℕ) (s : Stream) (n : ℕ) (wrong : LineFault) → AreRight records
    → flat_map line_of records ≡ text ++ rest → IsSeen rest wrong → Halts text s (Line n wrong) → ⊥
