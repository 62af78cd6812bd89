-- A session whose tables were all ended, and its outcome: `EndsAnnotated`.
use Rattle.std.specs.Prelude.{ℕ, Bool, List}
use Rattle.csvw_triples_core.specs.declared.term.Triple.{Triple}
use Rattle.csvw_triples.specs.OpeningTriples.{opening}
use Rattle.csvw_report.specs.declared.outcome.Outcome.{Outcome}
use Rattle.csvw_session.specs.Events.{Event}
use Rattle.csvw_session.specs.Finishing.{HasOutcome}
use Rattle.csvw_session.specs.Sessions.{Stands, TookGraph}
use Rattle.csvw_session.specs.declared.session.Session.{Session}
use Rattle.csvw_group_laws.specs.Annotated.{Table, AreAnnotated}
use Rattle.csvw_group_laws.specs.Graph.{GraphOf}
use Rattle.csvw_group_laws.specs.AtEnd.{texts_of}
use Rattle.csvw_group_laws.specs.Violations.{AreViolations}

-- the session took exactly these events since it got its sink; each of its tables was ended, and this is its outcome
pub record IsAtItsEnd {S : Type 0} (gains : S → List Triple → S → Type 0) (is_open : S → Bool) (failed : S → ℕ) (sink : S) (events : List Event)
    (s : Session S) (outcome : Outcome) : Type 0 where
  pub start : S
  pub opened : gains sink (opening s.mode s.plan) start
  pub stands : Stands gains is_open failed start events s
  pub outcome_is : HasOutcome s outcome

-- the texts of the events are annotated tables; the sink took their graph, and the outcome lists what they violate
pub record EndsAnnotated {S : Type 0} (gains : S → List Triple → S → Type 0) (sink : S) (events : List Event) (s : Session S) (outcome : Outcome) : Type 0 where
  pub tables : List Table
  pub annotated : AreAnnotated s.plan.tables (texts_of events) tables
  pub took : TookGraph gains sink s.sink (GraphOf s.mode s.plan tables)
  pub violations : AreViolations s.plan tables outcome.faults
