-- The order of events, and where they cut the texts of tables, doesn't change the result: `EndTheSame`.
use Rattle.std.specs.Prelude.{◌≡◌, ◌↔◌, ℕ, List, Contains}
use Rattle.csvw_triples_core.specs.declared.term.Triple.{Triple}
use Rattle.csvw_report.specs.declared.outcome.Outcome.{Outcome}
use Rattle.csvw_session.specs.Events.{Event, text_of}
use Rattle.csvw_session.specs.declared.session.Session.{Session}

-- each table has the same text
abbrev pub HaveSameTexts : List Event → List Event → Type 0
HaveSameTexts events others = (t : ℕ) → text_of events t ≡ text_of others t

-- two sinks took the same set of triples
pub record TookTheSame {S : Type 0} (gains : S → List Triple → S → Type 0) (sink now other later : S) : Type 0 where
  pub taken : List Triple
  pub gained : gains sink taken now
  pub also : List Triple
  pub gained_too : gains other also later
  pub same : (x : Triple) → Contains taken x ↔ Contains also x

-- equal faults, and equal graphs
pub record EndTheSame {S : Type 0} (gains : S → List Triple → S → Type 0) (sink other : S) (s r : Session S) (outcome its : Outcome) : Type 0 where
  pub faults : outcome.faults ≡ its.faults
  pub graphs : TookTheSame gains sink s.sink other r.sink
