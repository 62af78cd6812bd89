-- The events that the reads of tables make, and their order, table by table or in turn: `AreReads`, `AreTableByTable`,
-- `AreInTurn`.
use Rattle.std.specs.Prelude.{◌≡◌, ◌<◌, ◌≤◌, ◌+◌, ◌^◌, ◌==◌, ℕ, zero, suc, true, false, List, ◌++◌, length, Contains}
use Rattle.std.specs.List.{count_by}
use Rattle.csvw_session.specs.Events.{Event, Feed, table_of, text_of, ended_in}
use Rattle.csvw_session.specs.Order.{AreInOrder}

-- how many of the events are of table t
abbrev pub count_of : List Event → ℕ → ℕ
count_of events t = count_by (λ event. t == table_of event) events

-- P is true of the events so far before the first event and after each one
abbrev pub AtEachStep : (List Event → Type 0) → List Event → Type 0
AtEachStep P events = (front rest : List Event) → events ≡ front ++ rest → P front

-- if a table was read, each table before it was ended
abbrev pub AreEndedBefore : ℕ → List Event → Type 0
AreEndedBefore many events = (t u : ℕ) → 1 ≤ t → t < u → u ≤ many → 0 < count_of events u → ended_in events t ≡ true

-- of two tables that were not ended, the first was read as often as the second, or once more
abbrev pub AreReadEqually : ℕ → List Event → Type 0
AreReadEqually many events = (t u : ℕ) → 1 ≤ t → t < u → u ≤ many → ended_in events t ≡ false → ended_in events u ≡ false
    → (count_of events u ≤ count_of events t) × (count_of events t ≤ count_of events u + 1)

-- the order of `read_tables`: each table is read to its end before the next one
abbrev pub AreTableByTable : ℕ → List Event → Type 0
AreTableByTable many events = AtEachStep (AreEndedBefore many) events

-- the order of `read_turns`: each table that was not ended is read once, from the first on, before any of them is read again
abbrev pub AreInTurn : ℕ → List Event → Type 0
AreInTurn many events = AtEachStep (AreReadEqually many) events

-- Each event comes from one read: it is the end of its table, or a piece with at least one byte and at most `limit`. At most 2^40
-- reads are made.
pub record AreReads (many limit : ℕ) (events : List Event) : Type 0 where
  pub in_order : AreInOrder many events
  pub pieces : (t : ℕ) (piece : List ℕ) → Contains events (Feed t piece) → (0 < length piece) × (length piece ≤ limit)
  pub few : length events ≤ 2 ^ 40

-- the events come from reads in this order
pub record AreReadIn (Order : ℕ → List Event → Type 0) (many limit : ℕ) (events : List Event) : Type 0 where
  pub reads : AreReads many limit events
  pub order : Order many events

-- f 1 + f 2 + .. + f n
abbrev pub sum_to : ℕ → (ℕ → ℕ) → ℕ
sum_to zero f = 0
sum_to (suc n) f = sum_to n f + f (suc n)

-- how many bytes the tables have
abbrev pub total_len : ℕ → List Event → ℕ
total_len many events = sum_to many (λ t. length (text_of events t))
