-- The state of a session at its end.
use Rattle.std.specs.Prelude.{◌≡◌, ℕ, ◌+◌, List}
use Rattle.csvw_triples_core.specs.declared.term.Triple.{Triple}
use Rattle.csvw_session.specs.Events.{Event, text_of}
use Rattle.csvw_session.specs.Faults.{all_faults}
use Rattle.csvw_keys.specs.Books.{KeepsKeys}
use Rattle.csvw_keys.specs.KeyRules.{rules_of}
use Rattle.csvw_session.specs.Sessions.{TookGraph}
use Rattle.csvw_session.specs.declared.session.Session.{Session}
use Rattle.csvw_group_laws.specs.Annotated.{Table, AreAnnotated}
use Rattle.csvw_group_laws.specs.Graph.{GraphOf}
use Rattle.csvw_group_laws.specs.Violations.{rows_of, tables_violations}

-- the text of each table, by its place from 0
abbrev pub texts_of : List Event → ℕ → List ℕ
texts_of events i = text_of events (i + 1)

-- the texts of the events are annotated tables; the sink took their graph since the session got it, their violations were listed, and the book
-- of keys keeps their rows
pub record Annotates {S : Type 0} (gains : S → List Triple → S → Type 0) (sink : S) (events : List Event) (s : Session S) : Type 0 where
  pub tables : List Table
  pub annotated : AreAnnotated s.plan.tables (texts_of events) tables
  pub took : TookGraph gains sink s.sink (GraphOf s.mode s.plan tables)
  pub faults : all_faults s.tables.items ≡ tables_violations s.plan.tables tables
  pub keys : KeepsKeys s.keys (rules_of s.plan) (rows_of tables)
