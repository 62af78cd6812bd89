-- The session and the readers after pieces of the tables were read in turn.
use Rattle.std.specs.Prelude.{◌≡◌, ◌⊎◌, ◌<◌, ◌≤◌, ◌+◌, ◌^◌, ℕ, Bool, true, false, not, List, [], ◌∷◌, ◌++◌, length, slice_get, Option, Some, Result, Ok, Err}
use Rattle.csvw_streams.specs.declared.counted.Counted.{Counted}
use Rattle.csvw_streams.specs.Counted.{failures_of}
use Rattle.csvw_triples_core.specs.declared.term.Triple.{Triple}
use Rattle.csvw_session.specs.Events.{Event, table_of, ended_in}
use Rattle.csvw_session.specs.Sessions.{Stands}
use Rattle.csvw_session.specs.declared.session.Session.{Session}
use Rattle.csvw_engine_core.specs.declared.stop.Stop.{Stop}
use Rattle.csvw_engine.specs.ReadOrder.{AreInTurn, AreReadIn, count_of}
use Rattle.csvw_engine.specs.Reading.{Gave, GaveTexts, AreSteady}
use Rattle.csvw_engine.specs.TableReading.{Took, TableEnds, TableReads}

-- each is open
abbrev pub AreOpen : List Bool → Type 0
AreOpen going = (i : ℕ) (b : Bool) → slice_get going i ≡ Some b → b ≡ true

-- none from this place on is open
abbrev pub NoneFrom : ℕ → List Bool → Type 0
NoneFrom from going = (i : ℕ) → from ≤ i → slice_get going i ≡ Some true → ⊥

-- i is the first place from `from` on that is open
pub record IsFirstFrom (from : ℕ) (going : List Bool) (i : ℕ) : Type 0 where
  pub least : from ≤ i
  pub opened : slice_get going i ≡ Some true
  pub none : (j : ℕ) → from ≤ j → j < i → slice_get going j ≡ Some true → ⊥

-- i is that place or, if none from `from` on is open, the first of all that are open
abbrev pub IsNextFrom : ℕ → List Bool → ℕ → Type 0
IsNextFrom from going i = IsFirstFrom from going i ⊎ (NoneFrom from going × IsFirstFrom 0 going i)

-- each open table was read equally often, except that those before the place `from` were read once more
pub record HadTurns (going : List Bool) (from : ℕ) (events : List Event) : Type 0 where
  pub rounds : ℕ
  pub early : (i : ℕ) → i < from → slice_get going i ≡ Some true → count_of events (i + 1) ≡ rounds + 1
  pub late : (i : ℕ) → from ≤ i → slice_get going i ≡ Some true → count_of events (i + 1) ≡ rounds

-- it is the turn of table t, which was not ended
pub record IsOpen {S : Type 0} (s : Session S) (piece : List ℕ) (many limit : ℕ) (events : List Event) (t : ℕ) : Type 0 where
  pub tables : length s.plan.tables ≡ many
  pub room : length piece ≡ limit
  pub some : 0 < t
  pub within : t ≤ many
  pub not_ended : ended_in events t ≡ false
  pub few : length events < 2 ^ 40
  pub read : AreReadIn AreInTurn many limit events
  pub turn : (event : Event) → table_of event ≡ t → AreInTurn many (events ++ event ∷ [])

-- the reader of the table, which was r, returned pieces so far
pub record TableGoes {R S : Type 0} (gains : S → List Triple → S → Type 0) (is_open : S → Bool) (failed : S → ℕ) (remaining : R → Option (List ℕ)) (start : S)
    (Fit : List Event → Type 0) (events : List Event) (t : ℕ) (r s : Counted R) (new : Session S) (reads : ℕ) : Type 0 where
  pub bytes : List ℕ
  pub took : Took gains is_open failed start Fit events t bytes false new reads
  pub gave : Gave remaining r s bytes false
  pub steady : failures_of s ≡ failures_of r

-- after one read of the reader of a table, which was r before all reads: whether the table goes on, or why it stops
abbrev pub PieceReads : {R S : Type 0} → (S → List Triple → S → Type 0) → (S → Triple → S → Type 0) → (S → Bool) → (S → ℕ) → (R → Option (List ℕ)) → S
    → (List Event → Type 0) → List Event → ℕ → Counted R → Counted R → Session S → Session S → ℕ → Result Bool Stop → Type 0
PieceReads gains cuts is_open failed remaining start Fit events t r s old new reads (Ok true) =
    TableGoes gains is_open failed remaining start Fit events t r s new reads
PieceReads gains cuts is_open failed remaining start Fit events t r s old new reads (Ok false) =
    TableEnds gains is_open failed remaining start Fit events t r s new reads
PieceReads gains cuts is_open failed remaining start Fit events t r s old new reads (Err reason) =
    TableReads gains cuts is_open failed remaining start Fit events t r s old new reads (Err reason)

-- the readers returned pieces so far; the open tables were not ended
pub record ReadSome {R S : Type 0} (gains : S → List Triple → S → Type 0) (is_open : S → Bool) (failed : S → ℕ) (remaining : R → Option (List ℕ))
    (limit : ℕ) (start : S) (going : List Bool) (from : ℕ) (olds news : List (Counted R)) (now : Session S) (reads : ℕ) : Type 0 where
  pub events : List Event
  pub read : AreReadIn AreInTurn (length olds) limit events
  pub turns : HadTurns going from events
  pub stands : Stands gains is_open failed start events now
  pub many : length events ≡ reads
  pub gave : GaveTexts remaining olds news events
  pub steady : AreSteady olds news
  pub open_is : (i : ℕ) (b : Bool) → slice_get going i ≡ Some b → ended_in events (i + 1) ≡ not b
