-- The session and the readers after the tables were read: `Reads`.
use Rattle.std.specs.Prelude.{◌≡◌, ◌⊎◌, ◌<◌, ◌+◌, ◌^◌, ℕ, Bool, true, List, [], ◌∷◌, ◌++◌, length, slice_get, Option, Some, Result, Ok, Err}
use Rattle.std.specs.Io.KnownBytes.{Consumes, IsAtEnd}
use Rattle.csvw_streams.specs.declared.counted.Counted.{Counted}
use Rattle.csvw_streams.specs.Count.{one_more, after_end}
use Rattle.csvw_streams.specs.Counted.{inner_of, failures_of, ends_of}
use Rattle.csvw_triples_core.specs.declared.term.Triple.{Triple}
use Rattle.csvw_session.specs.Events.{Event, table_of, text_of, ended_in}
use Rattle.csvw_session.specs.Sessions.{Stands, Takes}
use Rattle.csvw_session.specs.declared.session.Session.{Session}
use Rattle.csvw_engine_core.specs.declared.stop.Stop.{Stop}
use Rattle.csvw_engine_core.specs.declared.stop.Stop.TheVariants as stop
use Rattle.csvw_engine.specs.ReadOrder.{AreReadIn}

-- a reader returned these bytes; it reported its end once if they ended, and not at all otherwise
pub record Gave {R : Type 0} (remaining : R → Option (List ℕ)) (old new : Counted R) (bytes : List ℕ) (ended : Bool) : Type 0 where
  pub consumed : Consumes (remaining (inner_of old)) (remaining (inner_of new)) bytes
  pub at_end : ended ≡ true → IsAtEnd (remaining (inner_of new))
  pub ended_is : ends_of new ≡ after_end ended (ends_of old)

-- the reader of each table returned its text
pub record GaveTexts {R : Type 0} (remaining : R → Option (List ℕ)) (old new : List (Counted R)) (events : List Event) : Type 0 where
  pub many : length new ≡ length old
  pub each : (i : ℕ) (r s : Counted R) → slice_get old i ≡ Some r → slice_get new i ≡ Some s
      → Gave remaining r s (text_of events (i + 1)) (ended_in events (i + 1))

-- no reader failed
abbrev pub AreSteady : {R : Type 0} → List (Counted R) → List (Counted R) → Type 0
AreSteady {R} old new = (i : ℕ) (r s : Counted R) → slice_get old i ≡ Some r → slice_get new i ≡ Some s → failures_of s ≡ failures_of r

-- a reader failed
pub record OneFailed {R : Type 0} (old new : List (Counted R)) : Type 0 where
  pub i : ℕ
  pub before : Counted R
  pub after : Counted R
  pub was : slice_get old i ≡ Some before
  pub is : slice_get new i ≡ Some after
  pub failed : failures_of after ≡ one_more (failures_of before)

-- the plan and the mode stay the same
abbrev pub IsSame : {S : Type 0} → Session S → Session S → Type 0
IsSame old new = (new.plan ≡ old.plan) × (new.mode ≡ old.mode)

-- the session took these events except the last, at which it stopped
pub record StopsAt {S : Type 0} (gains : S → List Triple → S → Type 0) (cuts : S → Triple → S → Type 0) (is_open : S → Bool) (failed : S → ℕ) (start : S)
    (old new : Session S)
    (events : List Event) (reason : Stop) : Type 0 where
  pub before : List Event
  pub event : Event
  pub all : events ≡ before ++ event ∷ []
  pub t : ℕ
  pub of_table : table_of event ≡ t
  pub session : Session S
  pub same : IsSame old session
  pub stands : Stands gains is_open failed start before session
  pub takes : Takes gains cuts is_open failed session new t event (Err reason)

-- all 2^40 reads were made
abbrev pub AreMany : List Event → Type 0
AreMany events = length events ≡ 2 ^ 40

-- each table was read to its end
pub record ReadsAll {R S : Type 0} (gains : S → List Triple → S → Type 0) (is_open : S → Bool) (failed : S → ℕ) (remaining : R → Option (List ℕ))
    (Order : ℕ → List Event → Type 0) (limit : ℕ) (start : S) (olds news : List (Counted R)) (old new : Session S) : Type 0 where
  pub events : List Event
  pub read : AreReadIn Order (length olds) limit events
  pub same : IsSame old new
  pub stands : Stands gains is_open failed start events new
  pub gave : GaveTexts remaining olds news events
  pub steady : AreSteady olds news
  pub ended : (i : ℕ) → i < length olds → ended_in events (i + 1) ≡ true

-- a read failed, or all 2^40 reads were made; all rows of the texts so far were given
pub record ReadFails {R S : Type 0} (gains : S → List Triple → S → Type 0) (is_open : S → Bool) (failed : S → ℕ) (remaining : R → Option (List ℕ))
    (Order : ℕ → List Event → Type 0) (limit : ℕ) (start : S) (olds news : List (Counted R)) (old new : Session S) : Type 0 where
  pub events : List Event
  pub read : AreReadIn Order (length olds) limit events
  pub same : IsSame old new
  pub stands : Stands gains is_open failed start events new
  pub gave : GaveTexts remaining olds news events
  pub blame : OneFailed olds news ⊎ (AreMany events × AreSteady olds news)

-- the session stopped at an event
pub record EventStops {R S : Type 0} (gains : S → List Triple → S → Type 0) (cuts : S → Triple → S → Type 0) (is_open : S → Bool) (failed : S → ℕ)
    (remaining : R → Option (List ℕ))
    (Order : ℕ → List Event → Type 0) (limit : ℕ) (start : S) (olds news : List (Counted R)) (old new : Session S) (reason : Stop) : Type 0 where
  pub events : List Event
  pub read : AreReadIn Order (length olds) limit events
  pub stops : StopsAt gains cuts is_open failed start old new events reason
  pub gave : GaveTexts remaining olds news events
  pub steady : AreSteady olds news

-- after all tables were read in this order, in pieces of at most so many bytes, or the reason why not
abbrev pub Reads : {R S : Type 0} → (S → List Triple → S → Type 0) → (S → Triple → S → Type 0) → (S → Bool) → (S → ℕ) → (R → Option (List ℕ)) → (ℕ
    → List Event → Type 0) → ℕ → S
    → List (Counted R) → List (Counted R) → Session S → Session S → Result Unit Stop → Type 0
Reads gains cuts is_open failed remaining Order limit start olds news old new (Ok u) = ReadsAll gains is_open failed remaining Order limit start olds news
    old new
Reads gains cuts is_open failed remaining Order limit start olds news old new (Err stop.Read) =
    ReadFails gains is_open failed remaining Order limit start olds news old new
Reads gains cuts is_open failed remaining Order limit start olds news old new (Err stop.Memory) =
    EventStops gains cuts is_open failed remaining Order limit start olds news old new stop.Memory
Reads gains cuts is_open failed remaining Order limit start olds news old new (Err stop.Write) =
    EventStops gains cuts is_open failed remaining Order limit start olds news old new stop.Write
Reads gains cuts is_open failed remaining Order limit start olds news old new (Err (stop.Rows t row reason)) =
    EventStops gains cuts is_open failed remaining Order limit start olds news old new (stop.Rows t row reason)
Reads gains cuts is_open failed remaining Order limit start olds news old new (Err (stop.Table t row reason)) =
    EventStops gains cuts is_open failed remaining Order limit start olds news old new (stop.Table t row reason)
Reads gains cuts is_open failed remaining Order limit start olds news old new (Err other) = ⊥
