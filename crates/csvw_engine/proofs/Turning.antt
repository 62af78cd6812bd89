-- One piece more was read, of the table whose turn it is.
use Rattle.std.proofs.Common.{◌≡◌, ◌≢◌, ◌<◌, ◌≤◌, ◌+◌, ◌-◌, ◌^◌, ℕ, Bool, true, false, List, [], ◌∷◌, ◌++◌, length, refl, sym, ap, ◌∙◌, subst, arith}
use Rattle.std.proofs.Common.{◌⊎◌, inl, inr, get_or, Option, Some, Ok}
use Rattle.std.specs.Prelude.{slice_get, slice_set, not}
use Rattle.std.proofs.lemmas.Bool.{cases_lt}
use Rattle.std.proofs.lemmas.Option.{slice_get-get_or, slice_get_within}
use Rattle.csvw_streams.specs.declared.counted.Counted.{Counted}
use Rattle.csvw_streams.specs.Counted.{failures_of}
use Rattle.csvw_triples_core.specs.declared.term.Triple.{Triple}
use Rattle.csvw_session.specs.Events.{Event, text_of, ended_in}
use Rattle.csvw_session.specs.SessionLaws.{TextsGrow}
use Rattle.csvw_session.specs.Sessions.{Stands}
use Rattle.csvw_session.specs.declared.session.Session.{Session}
use Rattle.csvw_engine.specs.ReadOrder.{AreInTurn, AreReadEqually, AreReadIn, count_of}
use Rattle.csvw_engine.specs.Reading.{Gave}
use Rattle.csvw_engine.specs.TableReading.{GoesOn, TableEnds}
use Rattle.csvw_engine.specs.TurnsReading.{AreOpen, HadTurns, IsFirstFrom, IsNextFrom, IsOpen, NoneFrom, TableGoes, PieceReads, ReadSome}
use Rattle.csvw_engine.proofs.Growing.{count_other, count_same, first_step, none_made, one_step_more, was_open}
use Rattle.csvw_engine.proofs.NextTable.{gave_as, none_failed, none_given}
use Rattle.csvw_engine.proofs.Readers.{gave_next, steady_next, set_same, set_other, here_or_not}

-- no reader was read
pub none_read : {R S : Type 0} (gains : S → List Triple → S → Type 0) (cuts : S → Triple → S → Type 0) (is_open : S → Bool) (failed : S → ℕ) (remaining : R
    → Option (List ℕ)) (limit : ℕ)
    (start : S) (going : List Bool) (olds : List (Counted R)) (now : Session S) → AreOpen going → Stands gains is_open failed start [] now
    → ReadSome gains is_open failed remaining limit start going 0 olds olds now 0
none_read gains cuts is_open failed remaining limit start going olds now all h = record {
  events = [];
  read = record {
    reads = none_made (length olds) limit;
    order = first_step (AreReadEqually (length olds)) (λ t u some less within at to. (omega arith, omega arith));
  };
  turns = record { rounds = 0; early = λ i less e. absurd (omega (arith, less)); late = λ i le e. refl };
  stands = h;
  many = refl;
  gave = none_given remaining olds;
  steady = none_failed olds;
  open_is = λ i b e. let is = all i b e in cc;
}

-- if no table is open, each was ended
pub all_ended : {R S : Type 0} (gains : S → List Triple → S → Type 0) (cuts : S → Triple → S → Type 0) (is_open : S → Bool) (failed : S → ℕ) (remaining : R
    → Option (List ℕ)) (limit : ℕ)
    (start : S) (going : List Bool) (from : ℕ) (olds news : List (Counted R)) (now : Session S) (reads : ℕ)
    (k : ReadSome gains is_open failed remaining limit start going from olds news now reads)
    → length going ≡ length olds → NoneFrom 0 going → (i : ℕ) → i < length olds → ended_in k.events (i + 1) ≡ true
all_ended gains cuts is_open failed remaining limit start going from olds news now reads k many none i below =
    by_flag (get_or going i false) (slice_get-get_or going i false (omega (arith, below, many)))
  where
    by_flag : (b : Bool) → slice_get going i ≡ Some b → ended_in k.events (i + 1) ≡ true
    by_flag true e = absurd (none i (omega arith) e)
    by_flag false e = k.open_is i false e

-- the next table is open
pub opened_next : (going : List Bool) (from n : ℕ) → IsNextFrom from going n → slice_get going n ≡ Some true
opened_next going from n (inl first) = first.opened
opened_next going from n (inr w) = w.1.opened

pub next_within : (going : List Bool) (from n : ℕ) → IsNextFrom from going n → n < length going
next_within going from n next = slice_get_within going n true (opened_next going from n next)

-- how often two open tables were read
equal_turns : (going : List Bool) (from : ℕ) (events : List Event) → HadTurns going from events → (i j : ℕ) → i < j → slice_get going i ≡ Some true
    → slice_get going j ≡ Some true
    → (count_of events (j + 1) ≤ count_of events (i + 1)) × (count_of events (i + 1) ≤ count_of events (j + 1) + 1)
equal_turns going from events h i j less at to = by_place (cases_lt i from) (cases_lt j from)
  where
    by_place : (i < from) ⊎ (from ≤ i) → (j < from) ⊎ (from ≤ j)
        → (count_of events (j + 1) ≤ count_of events (i + 1)) × (count_of events (i + 1) ≤ count_of events (j + 1) + 1)
    by_place (inl p) (inl q) = let a = h.early i p at in let b = h.early j q to in (omega (arith, a, b), omega (arith, a, b))
    by_place (inl p) (inr q) = let a = h.early i p at in let b = h.late j q to in (omega (arith, a, b), omega (arith, a, b))
    by_place (inr p) (inl q) = absurd (omega (arith, less, p, q))
    by_place (inr p) (inr q) = let a = h.late i p at in let b = h.late j q to in (omega (arith, a, b), omega (arith, a, b))

-- the turn of the table at place n
module _ (going : List Bool) (from n : ℕ) (events later : List Event) (h : HadTurns going from events)
    (others : (u : ℕ) → u ≢ n + 1 → count_of later u ≡ count_of events u) (own : count_of later (n + 1) ≡ count_of events (n + 1) + 1) where
  other : (i : ℕ) → i ≢ n → count_of later (i + 1) ≡ count_of events (i + 1)
  other i ne = others (i + 1) (λ e. ne (omega (arith, e)))

  at_turn : (i count : ℕ) → i ≡ n → count_of events (n + 1) ≡ count → count_of later (i + 1) ≡ count + 1
  at_turn i count same e = subst (λ j. count_of later (j + 1) ≡ count + 1) (sym same) (own ∙ ap (λ c. c + 1) e)

  same_round : IsFirstFrom from going n → HadTurns going (n + 1) later
  same_round first = record {
    rounds = h.rounds;
    early = λ i less e. elim (here_or_not i n) [
      | inl same ↦ at_turn i h.rounds same (h.late n first.least first.opened)
      | inr ne ↦ other i ne ∙ (elim (cases_lt i from) [
        | inl p ↦ h.early i p e
        | inr p ↦ absurd (first.none i p (omega (arith, less, ne)) e)
      ])
    ];
    late = λ i le e.
        let least = first.least in
        other i (λ same. omega (arith, le, same)) ∙ h.late i (omega (arith, le, least)) e;
  }

  next_round : NoneFrom from going → IsFirstFrom 0 going n → HadTurns going (n + 1) later
  next_round none first = record {
    rounds = h.rounds + 1;
    early = λ i less e. elim (here_or_not i n) [
      | inl same ↦ at_turn i (h.rounds + 1) same (h.early n (before n first.opened) first.opened)
      | inr ne ↦ absurd (first.none i (omega arith) (omega (arith, less, ne)) e)
    ];
    late = λ i le e. other i (λ same. omega (arith, le, same)) ∙ h.early i (before i e) e;
  }
    where
      before : (i : ℕ) → slice_get going i ≡ Some true → i < from
      before i e = elim (cases_lt i from) [ inl p ↦ p | inr p ↦ absurd (none i p e) ]

  pub turns_next : IsNextFrom from going n → HadTurns going (n + 1) later
  turns_next (inl first) = same_round first
  turns_next (inr w) = next_round w.0 w.1

-- a table that ends has no turn any more
turns_set : (going : List Bool) (from n : ℕ) (b : Bool) (events : List Event) → n < length going → slice_get going n ≡ Some true
    → HadTurns going from events → HadTurns (slice_set going n b) from events
turns_set going from n b events inside at h = record {
  rounds = h.rounds;
  early = λ i less e. h.early i less (was i e);
  late = λ i le e. h.late i le (was i e);
}
  where
    was : (i : ℕ) → slice_get (slice_set going n b) i ≡ Some true → slice_get going i ≡ Some true
    was i e = elim (here_or_not i n) [
      | inl same ↦ subst (λ j. slice_get going j ≡ Some true) (sym same) at
      | inr ne ↦ set_other going n i b true ne e
    ]

-- the events are in turn with one more
in_turn_next : TextsGrow → (many : ℕ) (going : List Bool) (from : ℕ) (events : List Event) (event : Event) → length going ≡ many
    → ((i : ℕ) (b : Bool) → slice_get going i ≡ Some b → ended_in events (i + 1) ≡ not b) → AreInTurn many events
    → HadTurns going from (events ++ event ∷ []) → AreInTurn many (events ++ event ∷ [])
in_turn_next grow many going from events event size open_is order turns =
    one_step_more (AreReadEqually many) events event order last
  where
    opened : (i : ℕ) → i < length going → ended_in (events ++ event ∷ []) (i + 1) ≡ false → slice_get going i ≡ Some true
    opened i below e = by_flag (get_or going i false) (slice_get-get_or going i false below)
      where
        by_flag : (b : Bool) → slice_get going i ≡ Some b → slice_get going i ≡ Some true
        by_flag true at = at
        by_flag false at = let ended = open_is i false at in let going_on = was_open grow events event (i + 1) e in cc

    at_places : (i j : ℕ) → i < j → j < length going → ended_in (events ++ event ∷ []) (i + 1) ≡ false
        → ended_in (events ++ event ∷ []) (j + 1) ≡ false
        → (count_of (events ++ event ∷ []) (j + 1) ≤ count_of (events ++ event ∷ []) (i + 1))
        × (count_of (events ++ event ∷ []) (i + 1) ≤ count_of (events ++ event ∷ []) (j + 1) + 1)
    at_places i j less below p q =
        equal_turns going from (events ++ event ∷ []) turns i j less (opened i (omega (arith, less, below)) p) (opened j below q)

    last : AreReadEqually many (events ++ event ∷ [])
    last t u some less within p q =
        let first : (t - 1) + 1 ≡ t = omega (arith, some) in
        let second : (u - 1) + 1 ≡ u = omega (arith, some, less) in
        subst (λ v. (count_of (events ++ event ∷ []) u ≤ count_of (events ++ event ∷ []) v)
        × (count_of (events ++ event ∷ []) v ≤ count_of (events ++ event ∷ []) u + 1)) first
        (subst (λ v. (count_of (events ++ event ∷ []) v ≤ count_of (events ++ event ∷ []) ((t - 1) + 1))
        × (count_of (events ++ event ∷ []) ((t - 1) + 1) ≤ count_of (events ++ event ∷ []) v + 1)) second
        (at_places (t - 1) (u - 1) (omega (arith, some, less)) (omega (arith, some, less, within, size))
        (subst (λ v. ended_in (events ++ event ∷ []) v ≡ false) (sym first) p)
        (subst (λ v. ended_in (events ++ event ∷ []) v ≡ false) (sym second) q)))

module _ {R S : Type 0} (gains : S → List Triple → S → Type 0) (cuts : S → Triple → S → Type 0) (is_open : S → Bool) (failed : S → ℕ) (remaining : R
    → Option (List ℕ)) (limit : ℕ)
    (start : S) (going : List Bool) (from : ℕ) (olds news : List (Counted R)) (old : Session S) (reads : ℕ)
    (k : ReadSome gains is_open failed remaining limit start going from olds news old reads)
    (n : ℕ) (r s : Counted R) (new : Session S) (below : n < length news) (inside : n < length going) (was : slice_get olds n ≡ Some r) where
  abbrev Fit : List Event → Type 0
  Fit = AreReadIn AreInTurn (length olds) limit

  -- a table that is open, and what its reader gave so far
  pub is_open_here : TextsGrow → (piece : List ℕ) → length old.plan.tables ≡ length olds → length piece ≡ limit → length going ≡ length olds
      → reads < 2 ^ 40 → IsNextFrom from going n → IsOpen old piece (length olds) limit k.events (n + 1)
  is_open_here grow piece tables room size few next =
      let made = k.many in record {
        tables = tables;
        room = room;
        some = omega arith;
        within = omega (arith, inside, size);
        not_ended = k.open_is n true (opened_next going from n next);
        few = omega (arith, made, few);
        read = k.read;
        turn = λ event is. in_turn_next grow (length olds) going (n + 1) k.events event size k.open_is k.read.order
            (turns_next going from n k.events (k.events ++ event ∷ []) k.turns (λ u ne. count_other k.events event u (λ e. ne (e ∙ is)))
            (count_same k.events event (n + 1) (sym is)) next);
      }

  pub gave_here : (now : Counted R) → slice_get news n ≡ Some now → IsNextFrom from going n → Gave remaining r now (text_of k.events (n + 1)) false
  gave_here now is next =
      subst (λ b. Gave remaining r now (text_of k.events (n + 1)) b) (k.open_is n true (opened_next going from n next)) (k.gave.each n r now was is)

  pub steady_here : (now : Counted R) → slice_get news n ≡ Some now → failures_of now ≡ failures_of r
  steady_here now is = k.steady n r now was is

  opens : (later : List Event) (goes : GoesOn (n + 1) k.events later) (b : Bool) → ended_in later (n + 1) ≡ not b
      → (i : ℕ) (c : Bool) → slice_get (slice_set going n b) i ≡ Some c → ended_in later (i + 1) ≡ not c
  opens later goes b e i c at = elim (here_or_not i n) [
    | inl same ↦ here same
    | inr ne ↦ goes.ended (i + 1) (λ f. ne (omega (arith, f))) ∙ k.open_is i c (set_other going n i b c ne at)
  ]
    where
      here : i ≡ n → ended_in later (i + 1) ≡ not c
      here same =
          let is : c ≡ b = set_same going n b c inside (subst (λ j. slice_get (slice_set going n b) j ≡ Some c) same at) in
          subst (λ j. ended_in later (j + 1) ≡ not c) (sym same) (subst (λ z. ended_in later (n + 1) ≡ not z) (sym is) e)

  turns_here : IsNextFrom from going n → (later : List Event) → GoesOn (n + 1) k.events later → length later ≡ length k.events + 1 → (b : Bool)
      → HadTurns (slice_set going n b) (n + 1) later
  turns_here next later goes longer b =
      let own = goes.own in
      turns_set going (n + 1) n b later inside (opened_next going from n next)
      (turns_next going from n k.events later k.turns goes.count (omega (arith, own, longer)) next)

  piece_read : IsNextFrom from going n → TableGoes gains is_open failed remaining start Fit k.events (n + 1) r s new (length k.events + 1)
      → ReadSome gains is_open failed remaining limit start (slice_set going n true) (n + 1) olds (slice_set news n s) new (length k.events + 1)
  piece_read next e = record {
    events = e.took.later;
    read = e.took.fit;
    turns = turns_here next e.took.later e.took.goes e.took.many true;
    stands = e.took.stands;
    many = e.took.many;
    gave = gave_next remaining olds news n r s below was k.events e.took.later k.gave e.took.goes
        (gave_as remaining n r s e.took.later e.bytes false e.took.text e.took.ended_is e.gave);
    steady = steady_next remaining olds news n r s below was k.steady e.steady;
    open_is = opens e.took.later e.took.goes true e.took.ended_is;
  }

  end_read : IsNextFrom from going n → TableEnds gains is_open failed remaining start Fit k.events (n + 1) r s new (length k.events + 1)
      → ReadSome gains is_open failed remaining limit start (slice_set going n false) (n + 1) olds (slice_set news n s) new (length k.events + 1)
  end_read next e = record {
    events = e.took.later;
    read = e.took.fit;
    turns = turns_here next e.took.later e.took.goes e.took.many false;
    stands = e.took.stands;
    many = e.took.many;
    gave = gave_next remaining olds news n r s below was k.events e.took.later k.gave e.took.goes
        (gave_as remaining n r s e.took.later e.bytes true e.took.text e.took.ended_is e.gave);
    steady = steady_next remaining olds news n r s below was k.steady e.steady;
    open_is = opens e.took.later e.took.goes false e.took.ended_is;
  }

  read_any : IsNextFrom from going n → (b : Bool)
      → PieceReads gains cuts is_open failed remaining start Fit k.events (n + 1) r s old new (length k.events + 1) (Ok b)
      → ReadSome gains is_open failed remaining limit start (slice_set going n b) (n + 1) olds (slice_set news n s) new (length k.events + 1)
  read_any next true e = piece_read next e
  read_any next false e = end_read next e

  pub read_on : IsNextFrom from going n → (b : Bool)
      → PieceReads gains cuts is_open failed remaining start Fit k.events (n + 1) r s old new (length k.events + 1) (Ok b)
      → ReadSome gains is_open failed remaining limit start (slice_set going n b) (n + 1) olds (slice_set news n s) new (reads + 1)
  read_on next b e =
      subst (λ m. ReadSome gains is_open failed remaining limit start (slice_set going n b) (n + 1) olds (slice_set news n s) new (m + 1)) k.many
      (read_any next b e)
