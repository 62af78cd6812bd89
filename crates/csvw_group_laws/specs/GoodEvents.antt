-- Good lists of events, and the results of a session for them: `AreGood`, `IsTakenOrLacks`, `EndsWell`.
use Rattle.std.specs.Prelude.{◌≡◌, ◌⊎◌, ◌≤◌, ℕ, Bool, true, List, [], ◌∷◌, ◌++◌, Contains, Result, Ok, Err}
use Rattle.std.specs.List.{list_all}
use Rattle.csvw_triples_core.specs.declared.term.Triple.{Triple}
use Rattle.csvw_report.specs.declared.outcome.Outcome.{Outcome}
use Rattle.csvw_engine_core.specs.Tables.{is_ended}
use Rattle.csvw_session.specs.Events.{Event, table_of, ended_in}
use Rattle.csvw_session.specs.Finishing.{Finishes}
use Rattle.csvw_session.specs.Order.{AreInOrder}
use Rattle.csvw_session.specs.Sessions.{Stands, Takes}
use Rattle.csvw_session.specs.declared.session.Session.{Session}
use Rattle.csvw_engine_core.specs.declared.stop.Stop.{Stop}
use Rattle.csvw_engine_core.specs.declared.stop.Stop.TheVariants as stop

-- each table is ended once, after its pieces
pub record AreGood (many : ℕ) (events : List Event) : Type 0 where
  pub in_order : AreInOrder many events
  pub ended : (t : ℕ) → 1 ≤ t → t ≤ many → ended_in events t ≡ true

-- memory ran out, or the sink's device failed
abbrev pub Lacks : Stop → Type 0
Lacks reason = (reason ≡ stop.Memory) ⊎ (reason ≡ stop.Write)

-- the result of a call: Ok, Memory or a failed write
abbrev pub IsTakenOrLacks : Result Unit Stop → Type 0
IsTakenOrLacks (Ok u) = Unit {0}
IsTakenOrLacks (Err reason) = Lacks reason

-- what a call of `feed` or `end` does with its event
pub record Calls {S : Type 0} (gains : S → List Triple → S → Type 0) (cuts : S → Triple → S → Type 0) (is_open : S → Bool) (failed : S → ℕ)
    (old new : Session S) (event : Event) (answer : Result Unit Stop) : Type 0 where
  pub takes : Takes gains cuts is_open failed old new (table_of event) event answer
  pub plan_is : new.plan ≡ old.plan

-- calls for these events, one after the other, with these results, after which the session is in this state
abbrev pub Goes : {S : Type 0} → (S → List Triple → S → Type 0) → (S → Triple → S → Type 0) → (S → Bool) → (S → ℕ) → Session S → List Event
    → List (Result Unit Stop) → Session S → Type 0
Goes gains cuts is_open failed s [] answers last = (answers ≡ []) × (last ≡ s)
Goes gains cuts is_open failed s (event ∷ events) [] last = ⊥
Goes {S} gains cuts is_open failed s (event ∷ events) (answer ∷ answers) last =
    (next : Session S) × Calls gains cuts is_open failed s next event answer × Goes gains cuts is_open failed next events answers last

-- each call returned Ok
abbrev pub AllTaken : List (Result Unit Stop) → Type 0
AllTaken answers = (answer : Result Unit Stop) → Contains answers answer → answer ≡ Ok tt

-- the first result that is not Ok says that memory ran out, or that the sink's device failed
pub record LacksFirst (answers : List (Result Unit Stop)) : Type 0 where
  pub front : List (Result Unit Stop)
  pub reason : Stop
  pub rest : List (Result Unit Stop)
  pub all : answers ≡ front ++ Err reason ∷ rest
  pub taken : AllTaken front
  pub lacks : Lacks reason

-- Each call returned Ok, so that the session took these events since the start, and each of its tables was ended. `finish` returns Ok or
-- Memory.
pub record EndsWell {S : Type 0} (gains : S → List Triple → S → Type 0) (is_open : S → Bool) (failed : S → ℕ) (start : S) (events : List Event)
    (answers : List (Result Unit Stop)) (last : Session S) : Type 0 where
  pub taken : AllTaken answers
  pub stands : Stands gains is_open failed start events last
  pub ended : list_all is_ended last.tables.items ≡ true
  pub finish : (finished : Session S) (result : Result Outcome Stop) → Finishes last finished result
      → ((outcome : Outcome) × (result ≡ Ok outcome)) ⊎ (result ≡ Err stop.Memory)
