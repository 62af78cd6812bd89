-- Events of known tables, each before the end of its table: `AreInOrder`.
use Rattle.std.specs.Prelude.{◌≡◌, ◌≤◌, ℕ, false, List, ◌∷◌, ◌++◌, Contains}
use Rattle.csvw_session.specs.Events.{Event, table_of, ended_in}

-- each event belongs to one of so many tables, numbered from 1, and comes before the end of that table
pub record AreInOrder (many : ℕ) (events : List Event) : Type 0 where
  pub known : (event : Event) → Contains events event → (1 ≤ table_of event) × (table_of event ≤ many)
  pub before_end : (front rest : List Event) (event : Event) → events ≡ front ++ event ∷ rest → ended_in front (table_of event) ≡ false
