-- One table more was read.
use Rattle.std.proofs.Common.{◌≡◌, ◌≢◌, ◌<◌, ◌≤◌, ◌+◌, ◌-◌, ℕ, Bool, true, false, List, [], length, refl, sym, ap, ◌∙◌, subst}
use Rattle.std.proofs.Common.{arith, inl, inr, Option, Some, Err}
use Rattle.std.specs.Prelude.{slice_get, slice_set}
use Rattle.csvw_streams.specs.declared.counted.Counted.{Counted}
use Rattle.csvw_streams.specs.Counted.{failures_of}
use Rattle.csvw_triples_core.specs.declared.term.Triple.{Triple}
use Rattle.csvw_session.specs.Events.{Event, text_of, ended_in}
use Rattle.csvw_session.specs.Sessions.{Stands}
use Rattle.csvw_session.specs.declared.session.Session.{Session}
use Rattle.csvw_engine_core.specs.declared.stop.Stop.{Stop}
use Rattle.csvw_engine_core.specs.declared.stop.Stop.TheVariants as stop
use Rattle.csvw_engine.specs.ReadOrder.{AreEndedBefore, AreReadIn, AreTableByTable}
use Rattle.csvw_engine.specs.Reading.{Gave, GaveTexts, AreSteady, IsSame, StopsAt, EventStops, ReadFails, Reads}
use Rattle.csvw_engine.specs.TableReading.{IsNext, TableEnds, TableFails, TableStops, TableReads}
use Rattle.csvw_engine.specs.TablesReading.{ReadFirst}
use Rattle.csvw_engine.proofs.Growing.{first_step, none_made}
use Rattle.csvw_engine.proofs.Readers.{gave_next, gave_none, steady_next, set_there, one_at, here_or_not}

-- what a reader gave, by the events
pub gave_as : {R : Type 0} (remaining : R → Option (List ℕ)) (n : ℕ) (r s : Counted R) (later : List Event) (bytes : List ℕ) (ended : Bool)
    → text_of later (n + 1) ≡ bytes → ended_in later (n + 1) ≡ ended → Gave remaining r s bytes ended
    → Gave remaining r s (text_of later (n + 1)) (ended_in later (n + 1))
gave_as remaining n r s later bytes ended t e g =
    subst (λ b. Gave remaining r s (text_of later (n + 1)) b) (sym e) (subst (λ xs. Gave remaining r s xs ended) (sym t) g)

-- no reader was read
pub none_given : {R : Type 0} (remaining : R → Option (List ℕ)) (olds : List (Counted R)) → GaveTexts remaining olds olds []
none_given remaining olds = record {
  many = refl;
  each = λ i r s p q. subst (λ z. Gave remaining r z [] false) (one_at olds i r s p q) (gave_none remaining r);
}

pub none_failed : {R : Type 0} (olds : List (Counted R)) → AreSteady olds olds
none_failed olds = λ i r s p q. ap failures_of (one_at olds i s r q p)

pub first_read : {R S : Type 0} (gains : S → List Triple → S → Type 0) (cuts : S → Triple → S → Type 0) (is_open : S → Bool) (failed : S
    → ℕ) (remaining : R → Option (List ℕ)) (limit : ℕ)
    (start : S) (olds : List (Counted R)) (now : Session S) → Stands gains is_open failed start [] now
    → ReadFirst gains is_open failed remaining limit start 0 olds olds now 0
first_read gains cuts is_open failed remaining limit start olds now h = record {
  events = [];
  read = record {
    reads = none_made (length olds) limit;
    order = first_step (AreEndedBefore (length olds)) (λ t u some less within read. absurd (omega (arith, read)));
  };
  stands = h;
  many = refl;
  gave = none_given remaining olds;
  steady = none_failed olds;
  ended = λ i less. absurd (omega (arith, less));
  no_text = λ i le. refl;
  not_ended = λ i le. refl;
}

module _ {R S : Type 0} (gains : S → List Triple → S → Type 0) (cuts : S → Triple → S → Type 0) (is_open : S → Bool) (failed : S → ℕ) (remaining : R
    → Option (List ℕ)) (limit : ℕ)
    (start : S) (n : ℕ) (olds news : List (Counted R)) (old : Session S) (reads : ℕ)
    (k : ReadFirst gains is_open failed remaining limit start n olds news old reads) where
  pub is_next : (piece : List ℕ) → length old.plan.tables ≡ length olds → length piece ≡ limit → n < length olds
      → IsNext old piece (length olds) limit k.events (n + 1)
  is_next piece tables room below = record {
    tables = tables;
    room = room;
    some = omega arith;
    within = omega (arith, below);
    text = k.no_text n (omega arith);
    not_ended = k.not_ended n (omega arith);
    before = before;
    read = k.read;
  }
    where
      before : (u : ℕ) → 1 ≤ u → u < n + 1 → ended_in k.events u ≡ true
      before u some less =
          let same : (u - 1) + 1 ≡ u = omega (arith, some) in
          subst (λ v. ended_in k.events v ≡ true) same (k.ended (u - 1) (omega (arith, some, less)))

  module _ (r s : Counted R) (new : Session S) (below : n < length news) (was : slice_get olds n ≡ Some r) where
    other : (i : ℕ) → i ≢ n → i + 1 ≢ n + 1
    other i ne e = ne (omega (arith, e))

    pub read_next : (last : ℕ) → TableEnds gains is_open failed remaining start (AreReadIn AreTableByTable (length olds) limit) k.events (n + 1) r s new last
        → ReadFirst gains is_open failed remaining limit start (n + 1) olds (slice_set news n s) new last
    read_next last e = record {
      events = e.took.later;
      read = e.took.fit;
      stands = e.took.stands;
      many = e.took.many;
      gave = gave_next remaining olds news n r s below was k.events e.took.later k.gave e.took.goes
          (gave_as remaining n r s e.took.later e.bytes true e.took.text e.took.ended_is e.gave);
      steady = steady_next remaining olds news n r s below was k.steady e.steady;
      ended = λ i lt. elim (here_or_not i n) [
        | inl same ↦ subst (λ j. ended_in e.took.later (j + 1) ≡ true) (sym same) e.took.ended_is
        | inr ne ↦ e.took.goes.ended (i + 1) (other i ne) ∙ k.ended i (let apart = ne in omega (arith, lt, apart))
      ];
      no_text = λ i le. e.took.goes.text (i + 1) (λ same. let bound = le in omega (arith, bound, same)) ∙ k.no_text i (omega (arith, le));
      not_ended = λ i le. e.took.goes.ended (i + 1) (λ same. let bound = le in omega (arith, bound, same)) ∙ k.not_ended i (omega (arith, le));
    }

-- a table stops, or its reader fails, after these events
module _ {R S : Type 0} (gains : S → List Triple → S → Type 0) (cuts : S → Triple → S → Type 0) (is_open : S → Bool) (failed : S → ℕ) (remaining : R
    → Option (List ℕ))
    (Order : ℕ → List Event → Type 0) (limit : ℕ) (start : S) (n : ℕ)
    (olds news : List (Counted R)) (old : Session S) (events : List Event) (gave : GaveTexts remaining olds news events) (steady : AreSteady olds news)
    (r s : Counted R) (new : Session S) (below : n < length news) (was : slice_get olds n ≡ Some r) where
  module _ (first : Session S) (same : IsSame first old) (now_same : IsSame first new) where
    fails : TableFails gains is_open failed remaining start (AreReadIn Order (length olds) limit) events (n + 1) r s new
        → ReadFails gains is_open failed remaining Order limit start olds (slice_set news n s) first new
    fails e = record {
      events = e.took.later;
      read = e.took.fit;
      same = now_same;
      stands = e.took.stands;
      gave = gave_next remaining olds news n r s below was events e.took.later gave e.took.goes
          (gave_as remaining n r s e.took.later e.bytes false e.took.text e.took.ended_is e.gave);
      blame = elim e.blame [
        | inl f ↦ inl (record { i = n; before = r; after = s; was = was; is = set_there news n s below; failed = f })
        | inr m ↦ inr (e.took.many ∙ m.0, steady_next remaining olds news n r s below was steady m.1)
      ];
    }

    stops_at : (later : List Event) (reason : Stop) → StopsAt gains cuts is_open failed start old new later reason
        → StopsAt gains cuts is_open failed start first new later reason
    stops_at later reason h = record {
      before = h.before;
      event = h.event;
      all = h.all;
      t = h.t;
      of_table = h.of_table;
      session = h.session;
      same = (h.same.0 ∙ same.0, h.same.1 ∙ same.1);
      stands = h.stands;
      takes = h.takes;
    }

    stops : (reason : Stop) → TableStops gains cuts is_open failed remaining start (AreReadIn Order (length olds) limit) events (n + 1) r s old new reason
        → EventStops gains cuts is_open failed remaining Order limit start olds (slice_set news n s) first new reason
    stops reason e = record {
      events = e.later;
      read = e.fit;
      stops = stops_at e.later reason e.stops;
      gave = gave_next remaining olds news n r s below was events e.later gave e.goes e.gave;
      steady = steady_next remaining olds news n r s below was steady e.steady;
    }

    pub ends_early : (reason : Stop) (last : ℕ)
        → TableReads gains cuts is_open failed remaining start (AreReadIn Order (length olds) limit) events (n + 1) r s old new last (Err reason)
        → Reads gains cuts is_open failed remaining Order limit start olds (slice_set news n s) first new (Err reason)
    ends_early stop.Memory last h = stops stop.Memory h
    ends_early stop.Write last h = stops stop.Write h
    ends_early stop.Read last h = fails h
    ends_early (stop.Rows t row reason) last h = stops (stop.Rows t row reason) h
    ends_early (stop.Table t row reason) last h = stops (stop.Table t row reason) h
    ends_early other last h = absurd h
