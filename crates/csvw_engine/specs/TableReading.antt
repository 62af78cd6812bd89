-- The session and the reader of one table after the reader was read.
use Rattle.std.specs.Prelude.{◌≡◌, ◌≢◌, ◌⊎◌, ◌<◌, ◌≤◌, ◌+◌, ◌^◌, ℕ, Bool, true, false, List, [], length, Option, Result, Ok, Err}
use Rattle.csvw_streams.specs.declared.counted.Counted.{Counted}
use Rattle.csvw_streams.specs.Count.{one_more}
use Rattle.csvw_streams.specs.Counted.{failures_of}
use Rattle.csvw_triples_core.specs.declared.term.Triple.{Triple}
use Rattle.csvw_session.specs.Events.{Event, text_of, ended_in}
use Rattle.csvw_session.specs.Sessions.{Stands}
use Rattle.csvw_session.specs.declared.session.Session.{Session}
use Rattle.csvw_engine_core.specs.declared.stop.Stop.{Stop}
use Rattle.csvw_engine_core.specs.declared.stop.Stop.TheVariants as stop
use Rattle.csvw_engine.specs.ReadOrder.{AreReadIn, AreTableByTable, count_of}
use Rattle.csvw_engine.specs.Reading.{Gave, StopsAt}

-- table t is next: it had no event yet, and each table before it was ended
pub record IsNext {S : Type 0} (s : Session S) (piece : List ℕ) (many limit : ℕ) (events : List Event) (t : ℕ) : Type 0 where
  pub tables : length s.plan.tables ≡ many
  pub room : length piece ≡ limit
  pub some : 0 < t
  pub within : t ≤ many
  pub text : text_of events t ≡ []
  pub not_ended : ended_in events t ≡ false
  pub before : (u : ℕ) → 1 ≤ u → u < t → ended_in events u ≡ true
  pub read : AreReadIn AreTableByTable many limit events

-- the later events are these and some of table t only
pub record GoesOn (t : ℕ) (events later : List Event) : Type 0 where
  pub text : (u : ℕ) → u ≢ t → text_of later u ≡ text_of events u
  pub ended : (u : ℕ) → u ≢ t → ended_in later u ≡ ended_in events u
  pub count : (u : ℕ) → u ≢ t → count_of later u ≡ count_of events u
  pub own : count_of later t + length events ≡ count_of events t + length later

-- the session took these bytes of table t, and perhaps its end; the order allows all events
pub record Took {S : Type 0} (gains : S → List Triple → S → Type 0) (is_open : S → Bool) (failed : S → ℕ) (start : S) (Fit : List Event → Type 0)
    (events : List Event) (t : ℕ) (bytes : List ℕ) (ended : Bool) (now : Session S) (reads : ℕ) : Type 0 where
  pub later : List Event
  pub fit : Fit later
  pub goes : GoesOn t events later
  pub text : text_of later t ≡ bytes
  pub ended_is : ended_in later t ≡ ended
  pub many : length later ≡ reads
  pub stands : Stands gains is_open failed start later now

-- the reader of the table was read to its end
pub record TableEnds {R S : Type 0} (gains : S → List Triple → S → Type 0) (is_open : S → Bool) (failed : S → ℕ) (remaining : R → Option (List ℕ))
    (start : S) (Fit : List Event → Type 0) (events : List Event) (t : ℕ) (r s : Counted R) (new : Session S) (reads : ℕ) : Type 0 where
  pub bytes : List ℕ
  pub took : Took gains is_open failed start Fit events t bytes true new reads
  pub gave : Gave remaining r s bytes true
  pub steady : failures_of s ≡ failures_of r

-- it failed, or all 2^40 reads were made
pub record TableFails {R S : Type 0} (gains : S → List Triple → S → Type 0) (is_open : S → Bool) (failed : S → ℕ) (remaining : R → Option (List ℕ))
    (start : S) (Fit : List Event → Type 0) (events : List Event) (t : ℕ) (r s : Counted R) (new : Session S) : Type 0 where
  pub bytes : List ℕ
  pub reads : ℕ
  pub took : Took gains is_open failed start Fit events t bytes false new reads
  pub gave : Gave remaining r s bytes false
  pub blame : (failures_of s ≡ one_more (failures_of r)) ⊎ ((reads ≡ 2 ^ 40) × (failures_of s ≡ failures_of r))

-- the session stopped at an event of the table
pub record TableStops {R S : Type 0} (gains : S → List Triple → S → Type 0) (cuts : S → Triple → S → Type 0) (is_open : S → Bool) (failed : S → ℕ)
    (remaining : R → Option (List ℕ))
    (start : S) (Fit : List Event → Type 0) (events : List Event) (t : ℕ) (r s : Counted R) (old new : Session S) (reason : Stop) : Type 0 where
  pub later : List Event
  pub fit : Fit later
  pub goes : GoesOn t events later
  pub stops : StopsAt gains cuts is_open failed start old new later reason
  pub gave : Gave remaining r s (text_of later t) (ended_in later t)
  pub steady : failures_of s ≡ failures_of r

-- the state of the reader and the session after a table was read
abbrev pub TableReads : {R S : Type 0} → (S → List Triple → S → Type 0) → (S → Triple → S → Type 0) → (S → Bool) → (S → ℕ) → (R → Option (List ℕ)) → S
    → (List Event → Type 0) → List Event → ℕ → Counted R → Counted R → Session S → Session S → ℕ → Result Unit Stop → Type 0
TableReads gains cuts is_open failed remaining start Fit events t r s old new reads (Ok u) =
    TableEnds gains is_open failed remaining start Fit events t r s new reads
TableReads gains cuts is_open failed remaining start Fit events t r s old new reads (Err stop.Read) =
    TableFails gains is_open failed remaining start Fit events t r s new
TableReads gains cuts is_open failed remaining start Fit events t r s old new reads (Err stop.Memory) =
    TableStops gains cuts is_open failed remaining start Fit events t r s old new stop.Memory
TableReads gains cuts is_open failed remaining start Fit events t r s old new reads (Err stop.Write) =
    TableStops gains cuts is_open failed remaining start Fit events t r s old new stop.Write
TableReads gains cuts is_open failed remaining start Fit events t r s old new reads (Err (stop.Rows u row reason)) =
    TableStops gains cuts is_open failed remaining start Fit events t r s old new (stop.Rows u row reason)
TableReads gains cuts is_open failed remaining start Fit events t r s old new reads (Err (stop.Table u row reason)) =
    TableStops gains cuts is_open failed remaining start Fit events t r s old new (stop.Table u row reason)
TableReads gains cuts is_open failed remaining start Fit events t r s old new reads (Err other) = ⊥
