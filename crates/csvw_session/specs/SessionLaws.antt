-- Laws of the definitions of this crate.
use Rattle.std.specs.Prelude.{◌≡◌, ◌≢◌, ℕ, true, List, [], ◌∷◌, ◌++◌}
use Rattle.csvw_session.specs.Events.{Event, Feed, End, text_of, ended_in}

-- the texts of tables after one more event
pub record TextsGrow : Type 0 where
  pub fed : (events : List Event) (t : ℕ) (piece : List ℕ) → text_of (events ++ Feed t piece ∷ []) t ≡ text_of events t ++ piece
  pub fed_other : (events : List Event) (t u : ℕ) (piece : List ℕ) → u ≢ t → text_of (events ++ Feed t piece ∷ []) u ≡ text_of events u
  pub fed_ended : (events : List Event) (t u : ℕ) (piece : List ℕ) → ended_in (events ++ Feed t piece ∷ []) u ≡ ended_in events u
  pub end_text : (events : List Event) (t u : ℕ) → text_of (events ++ End t ∷ []) u ≡ text_of events u
  pub end_same : (events : List Event) (t : ℕ) → ended_in (events ++ End t ∷ []) t ≡ true
  pub end_other : (events : List Event) (t u : ℕ) → u ≢ t → ended_in (events ++ End t ∷ []) u ≡ ended_in events u
