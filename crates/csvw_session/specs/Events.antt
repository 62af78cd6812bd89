-- Events of a session, and the texts of tables that they make: `table_of`, `text_of`, `ended_in`.
use Rattle.std.specs.Prelude.{ℕ, ◌==◌, ◌||◌, Bool, false, if◌then◌else◌, List, [], ◌∷◌, ◌++◌}

-- an event of a session: a piece of a table, or its end; tables have numbers from 1
pub data Event : Type 0 where
  Feed : ℕ → List ℕ → Event
  End : ℕ → Event

-- the table of an event
abbrev pub table_of : Event → ℕ
table_of (Feed t piece) = t
table_of (End t) = t

-- the pieces of table t, joined
abbrev pub text_of : List Event → ℕ → List ℕ
text_of [] t = []
text_of (Feed u piece ∷ events) t = if t == u then piece ++ text_of events t else text_of events t
text_of (End u ∷ events) t = text_of events t

-- table t was ended
abbrev pub ended_in : List Event → ℕ → Bool
ended_in [] t = false
ended_in (Feed u piece ∷ events) t = ended_in events t
ended_in (End u ∷ events) t = (t == u) || ended_in events t
