-- The triples that the tables of a group put into a sink, and write as N-Triples.
use Rattle.std.specs.Prelude.{◌≡◌, ◌⊎◌, ◌<◌, ◌+◌, ◌-◌, ◌^◌, ℕ, Bool, true, List, [], Option, Result, Ok, Err, length}
use Rattle.csvw_streams.specs.declared.counted.Counted.{Counted}
use Rattle.csvw_streams.specs.Streams.{Stream}
use Rattle.csvw_columns.specs.declared.plan.Plan.{Plan}
use Rattle.csvw_triples_core.specs.Taking.{IsAsReady}
use Rattle.csvw_triples_core.specs.declared.mode.Mode.{Mode}
use Rattle.csvw_triples_core.specs.declared.term.Triple.{Triple}
use Rattle.csvw_report.specs.declared.outcome.Outcome.{Outcome}
use Rattle.csvw_session.specs.Events.{Event}
use Rattle.csvw_session.specs.Sessions.{TookGraph}
use Rattle.csvw_engine_core.specs.declared.stop.Stop.{Stop}
use Rattle.csvw_engine_core.specs.declared.stop.Stop.TheVariants as stop
use Rattle.csvw_group_laws.specs.Annotated.{Table, AreAnnotated}
use Rattle.csvw_group_laws.specs.AtEnd.{texts_of}
use Rattle.csvw_group_laws.specs.Graph.{GraphOf}
use Rattle.csvw_group_laws.specs.Stopped.{TookBy}
use Rattle.csvw_group_laws.specs.Violations.{AreViolations}
use Rattle.csvw_engine.specs.Runs.{Rises, Wrote, IsSound}
use Rattle.csvw_engine.specs.Stopped.{Added, Leaves}
use Rattle.csvw_engine.specs.Texts.{GaveEvents, IsReason, ReadToEnds}

-- the texts of the readers are annotated tables, whose violations are the faults of the outcome
pub record AnnotatesTexts {R : Type 0} (remaining : R → Option (List ℕ)) (order : ℕ → List Event → Type 0) (plan : Plan)
    (olds news : List (Counted R)) (outcome : Outcome) (Gives : List Table → Type 0) : Type 0 where
  pub events : List Event
  pub read : ReadToEnds remaining order olds news events
  pub tables : List Table
  pub annotated : AreAnnotated plan.tables (texts_of events) tables
  pub violations : AreViolations plan tables outcome.faults
  pub gives : Gives tables

-- the texts so far, and this holds of them
abbrev pub TextsSoFar : {R : Type 0} → (R → Option (List ℕ)) → (ℕ → List Event → Type 0) → List (Counted R) → List (Counted R)
    → (List Event → Type 0) → Type 0
TextsSoFar remaining order olds news P = (events : List Event) × GaveEvents remaining order (length olds) olds news events × P events

-- the texts of the readers are annotated tables, and this holds of them
pub record HaveTables {R : Type 0} (remaining : R → Option (List ℕ)) (order : ℕ → List Event → Type 0) (plan : Plan) (olds news : List (Counted R))
    (Gives : List Table → Type 0) : Type 0 where
  pub events : List Event
  pub read : ReadToEnds remaining order olds news events
  pub tables : List Table
  pub annotated : AreAnnotated plan.tables (texts_of events) tables
  pub gives : Gives tables

-- as ready as before, unless a write failed
abbrev pub EndsBy : Type 0 → Type 0 → Stop → Type 0
EndsBy Ready Fails stop.Write = Fails
EndsBy Ready Fails reason = Ready

-- The reason why the tables stop, and what is left after the events before it; or memory ran out after whole tables.
abbrev pub TablesStop : {R : Type 0} → (R → Option (List ℕ)) → (ℕ → List Event → Type 0) → Plan → List (Counted R) → List (Counted R)
    → (Stop → List Event → Type 0) → (List Table → Type 0) → Stop → Type 0
TablesStop remaining order plan olds news Left Whole reason =
    TextsSoFar remaining order olds news (λ events. IsReason plan olds news reason events × Left reason events)
    ⊎ ((reason ≡ stop.Memory) × HaveTables remaining order plan olds news Whole)

-- the sink took the graph of the group, and is as ready as it was
pub record TookTables {S : Type 0} (gains : S → List Triple → S → Type 0) (is_open : S → Bool) (failed : S → ℕ) (mode : Mode) (plan : Plan)
    (start now : S) (tables : List Table) : Type 0 where
  pub took : TookGraph gains start now (GraphOf mode plan tables)
  pub ready : IsAsReady is_open failed start now

-- the sink took some triples
abbrev pub GainsSome : {S : Type 0} → (S → List Triple → S → Type 0) → S → S → Type 0
GainsSome gains start now = (taken : List Triple) × gains start taken now

-- what a sink took before a stop of the tables after these events
abbrev pub SinkLeaves : {S : Type 0} → (S → List Triple → S → Type 0) → (S → Triple → S → Type 0) → (S → Bool) → (S → ℕ) → Mode → Plan → S → S → Stop
    → List Event → Type 0
SinkLeaves gains cuts is_open failed mode plan start now reason events = TookBy gains cuts is_open failed mode plan events start now reason

-- after the tables of a session were read to their ends, and it was finished
abbrev pub TakesTables : {R S : Type 0} → (S → List Triple → S → Type 0) → (S → Triple → S → Type 0) → (S → Bool) → (S → ℕ) → (R → Option (List ℕ))
    → (ℕ → List Event → Type 0) → Mode → Plan → List (Counted R) → List (Counted R) → S → S → Result Outcome Stop → Type 0
TakesTables gains cuts is_open failed remaining order mode plan olds news start now (Ok outcome) =
    AnnotatesTexts remaining order plan olds news outcome (λ tables. TookTables gains is_open failed mode plan start now tables)
TakesTables gains cuts is_open failed remaining order mode plan olds news start now (Err reason) =
    GainsSome gains start now
    × TablesStop remaining order plan olds news (SinkLeaves gains cuts is_open failed mode plan start now)
    (TookTables gains is_open failed mode plan start now) reason
    × EndsBy (IsAsReady is_open failed start now) (is_open start ≡ true → failed start < 2 ^ 64 - 1 → failed now ≡ failed start + 1) reason

-- after the tables were written as N-Triples
abbrev pub Converts : {R : Type 0} → (R → Option (List ℕ)) → (ℕ → List Event → Type 0) → Mode → Plan → List (Counted R) → List (Counted R)
    → Stream → Result Outcome Stop → Type 0
Converts remaining order mode plan olds news out (Ok outcome) =
    AnnotatesTexts remaining order plan olds news outcome (λ tables. Wrote mode out plan tables × Added mode out (GraphOf mode plan tables) [])
Converts remaining order mode plan olds news out (Err reason) =
    TablesStop remaining order plan olds news (Leaves mode plan out) (λ tables. Added mode out (GraphOf mode plan tables) []) reason
    × EndsBy (IsSound out) (Rises out) reason
