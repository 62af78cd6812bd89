-- The session and the readers after some of the tables were read.
use Rattle.std.specs.Prelude.{◌≡◌, ◌<◌, ◌≤◌, ◌+◌, ℕ, Bool, true, false, List, [], length, Option}
use Rattle.csvw_streams.specs.declared.counted.Counted.{Counted}
use Rattle.csvw_triples_core.specs.declared.term.Triple.{Triple}
use Rattle.csvw_session.specs.Events.{Event, text_of, ended_in}
use Rattle.csvw_session.specs.Sessions.{Stands}
use Rattle.csvw_session.specs.declared.session.Session.{Session}
use Rattle.csvw_engine.specs.ReadOrder.{AreReadIn, AreTableByTable}
use Rattle.csvw_engine.specs.Reading.{GaveTexts, AreSteady}

-- the first n tables were read to their ends, and the others had no event
pub record ReadFirst {R S : Type 0} (gains : S → List Triple → S → Type 0) (is_open : S → Bool) (failed : S → ℕ) (remaining : R → Option (List ℕ))
    (limit : ℕ) (start : S) (n : ℕ) (olds news : List (Counted R)) (now : Session S) (reads : ℕ) : Type 0 where
  pub events : List Event
  pub read : AreReadIn AreTableByTable (length olds) limit events
  pub stands : Stands gains is_open failed start events now
  pub many : length events ≡ reads
  pub gave : GaveTexts remaining olds news events
  pub steady : AreSteady olds news
  pub ended : (i : ℕ) → i < n → ended_in events (i + 1) ≡ true
  pub no_text : (i : ℕ) → n ≤ i → text_of events (i + 1) ≡ []
  pub not_ended : (i : ℕ) → n ≤ i → ended_in events (i + 1) ≡ false
