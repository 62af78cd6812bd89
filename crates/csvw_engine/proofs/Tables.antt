-- An event of one table more.
use Rattle.std.proofs.Common.{◌≡◌, ◌<◌, ◌≤◌, ◌+◌, ◌^◌, ℕ, Bool, true, false, List, [], ◌∷◌, ◌++◌, length, refl, sym, ap, ◌∙◌, subst, inl, inr, arith}
use Rattle.std.proofs.Common.{Option, Result, Ok, Err}
use Rattle.std.proofs.lemmas.List.{length_push}
use Rattle.csvw_streams.specs.declared.counted.Counted.{Counted}
use Rattle.csvw_streams.specs.Counted.{failures_of}
use Rattle.csvw_triples_core.specs.declared.term.Triple.{Triple}
use Rattle.csvw_session.specs.Events.{Event, Feed, End, table_of, text_of, ended_in}
use Rattle.csvw_session.specs.SessionLaws.{TextsGrow}
use Rattle.csvw_session.specs.Sessions.{Stands, Takes}
use Rattle.csvw_session.specs.declared.session.Session.{Session}
use Rattle.csvw_engine_core.specs.declared.stop.Stop.{Stop}
use Rattle.csvw_engine_core.specs.declared.stop.Stop.TheVariants as stop
use Rattle.csvw_engine.specs.ReadOrder.{AreInTurn, AreReadIn, AreTableByTable, count_of}
use Rattle.csvw_engine.specs.Reading.{Gave, IsSame}
use Rattle.csvw_engine.specs.TableReading.{IsNext, GoesOn, Took, TableReads, TableStops}
use Rattle.csvw_engine.specs.TurnsReading.{IsOpen}
use Rattle.csvw_engine.proofs.Growing.{IsSized, count_other, count_same, reads_next, tables_next}

-- the events go on with one of the table
pub goes_none : (t : ℕ) (events : List Event) → GoesOn t events events
goes_none t events = record { text = λ u ne. refl; ended = λ u ne. refl; count = λ u ne. refl; own = refl }

own_next : (t : ℕ) (events later : List Event) (event : Event) → t ≡ table_of event → GoesOn t events later
    → count_of (later ++ event ∷ []) t + length events ≡ count_of events t + length (later ++ event ∷ [])
own_next t events later event is h =
    let more : count_of (later ++ event ∷ []) t ≡ count_of later t + 1 = count_same later event t is in
    let longer : length (later ++ event ∷ []) ≡ length later + 1 = length_push later event in
    let own = h.own in
    omega (arith, more, longer, own)

pub goes_fed : TextsGrow → (t : ℕ) (piece : List ℕ) (events later : List Event) → GoesOn t events later → GoesOn t events (later ++ Feed t piece ∷ [])
goes_fed grow t piece events later h = record {
  text = λ u ne. grow.fed_other later t u piece ne ∙ h.text u ne;
  ended = λ u ne. grow.fed_ended later t u piece ∙ h.ended u ne;
  count = λ u ne. count_other later (Feed t piece) u ne ∙ h.count u ne;
  own = own_next t events later (Feed t piece) refl h;
}

pub goes_ended : TextsGrow → (t : ℕ) (events later : List Event) → GoesOn t events later → GoesOn t events (later ++ End t ∷ [])
goes_ended grow t events later h = record {
  text = λ u ne. grow.end_text later t u ∙ h.text u ne;
  ended = λ u ne. grow.end_other later t u ne ∙ h.ended u ne;
  count = λ u ne. count_other later (End t) u ne ∙ h.count u ne;
  own = own_next t events later (End t) refl h;
}

one_longer : (events : List Event) (event : Event) (n : ℕ) → length events ≡ n → length (events ++ event ∷ []) ≡ n + 1
one_longer events event n e = length_push events event ∙ ap (λ k. k + 1) e

-- one event more is in order
module _ {S : Type 0} (s : Session S) (room : List ℕ) (many limit : ℕ) (events : List Event) (t : ℕ) where
  pub next_fits : TextsGrow → IsNext s room many limit events t → (later : List Event) → AreReadIn AreTableByTable many limit later → GoesOn t events later
      → ended_in later t ≡ false → length later < 2 ^ 40 → (event : Event) → table_of event ≡ t → IsSized limit event
      → AreReadIn AreTableByTable many limit (later ++ event ∷ [])
  next_fits grow next later fit goes going few event is sized =
      let some = next.some in
      let within = next.within in
      let least : 1 ≤ table_of event = omega (arith, is, some) in
      let most : table_of event ≤ many = omega (arith, is, within) in
      let not_ended : ended_in later (table_of event) ≡ false = subst (λ u. ended_in later u ≡ false) (sym is) going in
      record {
        reads = reads_next many limit later event least most not_ended fit.reads few sized;
        order = tables_next many limit later event least most not_ended grow fit.order
            (λ u least_u less. before u least_u (omega (arith, is, less)));
      }
    where
      before : (u : ℕ) → 1 ≤ u → u < t → ended_in later u ≡ true
      before u least less = goes.ended u (λ same. absurd (omega (arith, less, same))) ∙ next.before u least less

  pub turn_fits : IsOpen s room many limit events t → (event : Event) → table_of event ≡ t → IsSized limit event
      → AreReadIn AreInTurn many limit (events ++ event ∷ [])
  turn_fits h event is sized =
      let some = h.some in
      let within = h.within in
      let least : 1 ≤ table_of event = omega (arith, is, some) in
      let most : table_of event ≤ many = omega (arith, is, within) in
      let not_ended : ended_in events (table_of event) ≡ false = subst (λ u. ended_in events u ≡ false) (sym is) h.not_ended in
      record { reads = reads_next many limit events event least most not_ended h.read.reads h.few sized; order = h.turn event is }

module _ {S : Type 0} (gains : S → List Triple → S → Type 0) (cuts : S → Triple → S → Type 0) (is_open : S → Bool) (failed : S
    → ℕ) (grow : TextsGrow) (start : S)
    (Fit : List Event → Type 0) (events : List Event) (t : ℕ) where
  -- before any
  pub took_none : (s : Session S) (reads : ℕ) → Stands gains is_open failed start events s → Fit events → text_of events t ≡ [] → ended_in events t ≡ false
      → length events ≡ reads → Took gains is_open failed start Fit events t [] false s reads
  took_none s reads h fit none going many = record {
    later = events;
    fit = fit;
    goes = goes_none t events;
    text = none;
    ended_is = going;
    many = many;
    stands = h;
  }

  -- the events so far
  abbrev pub took_so_far : (s : Session S) (reads : ℕ) → Stands gains is_open failed start events s → Fit events → ended_in events t ≡ false
      → length events ≡ reads → Took gains is_open failed start Fit events t (text_of events t) false s reads
  took_so_far s reads h fit going many = record {
    later = events;
    fit = fit;
    goes = goes_none t events;
    text = refl;
    ended_is = going;
    many = many;
    stands = h;
  }

  pub took_piece : (old new : Session S) (bytes piece : List ℕ) (reads : ℕ) (u : Unit {0})
      (k : Took gains is_open failed start Fit events t bytes false old reads) → Fit (k.later ++ Feed t piece ∷ [])
      → Takes gains cuts is_open failed old new t (Feed t piece) (Ok u) → Took gains is_open failed start Fit events t (bytes ++ piece) false new (reads + 1)
  took_piece old new bytes piece reads u k fit takes = record {
    later = k.later ++ Feed t piece ∷ [];
    fit = fit;
    goes = goes_fed grow t piece events k.later k.goes;
    text = grow.fed k.later t piece ∙ ap (λ z. z ++ piece) k.text;
    ended_is = grow.fed_ended k.later t t piece ∙ k.ended_is;
    many = one_longer k.later (Feed t piece) reads k.many;
    stands = takes start k.later k.stands;
  }

  took_end : (old new : Session S) (bytes : List ℕ) (reads : ℕ) (u : Unit {0})
      (k : Took gains is_open failed start Fit events t bytes false old reads) → Fit (k.later ++ End t ∷ [])
      → Takes gains cuts is_open failed old new t (End t) (Ok u) → Took gains is_open failed start Fit events t bytes true new (reads + 1)
  took_end old new bytes reads u k fit takes = record {
    later = k.later ++ End t ∷ [];
    fit = fit;
    goes = goes_ended grow t events k.later k.goes;
    text = grow.end_text k.later t t ∙ k.text;
    ended_is = grow.end_same k.later t;
    many = one_longer k.later (End t) reads k.many;
    stands = takes start k.later k.stands;
  }

  module _ {R : Type 0} (remaining : R → Option (List ℕ)) (r s : Counted R) (first old new : Session S) (bytes : List ℕ) (reads : ℕ)
      (k : Took gains is_open failed start Fit events t bytes false old reads)
      (same : IsSame first old) (some : 0 < t) (within : t ≤ length first.plan.tables) where
    -- an event at which the session stopped
    module _ (event : Event) (is_of : table_of event ≡ t) (fit : Fit (k.later ++ event ∷ [])) (goes : GoesOn t events (k.later ++ event ∷ []))
        (gave : Gave remaining r s (text_of (k.later ++ event ∷ []) t) (ended_in (k.later ++ event ∷ []) t)) (steady : failures_of s ≡ failures_of r) where
      stopped : (reason : Stop) → Takes gains cuts is_open failed old new t event (Err reason)
          → TableStops gains cuts is_open failed remaining start Fit events t r s first new reason
      stopped reason takes = record {
        later = k.later ++ event ∷ [];
        fit = fit;
        goes = goes;
        stops = record { before = k.later; event = event; all = refl; t = t; of_table = is_of; session = old; same = same; stands = k.stands; takes = takes };
        gave = gave;
        steady = steady;
      }

      pub stops : (reason : Stop) (last : ℕ) → Takes gains cuts is_open failed old new t event (Err reason)
          → TableReads gains cuts is_open failed remaining start Fit events t r s first new last (Err reason)
      stops stop.Memory last takes = stopped stop.Memory takes
      stops stop.Write last takes = stopped stop.Write takes
      stops (stop.Rows u row reason) last takes = stopped (stop.Rows u row reason) takes
      stops (stop.Table u row reason) last takes = stopped (stop.Table u row reason) takes
      stops stop.Failed last takes = let is : old.state ≡ _ = takes.1 in let opened = k.stands.state_is in cc
      stops stop.UnknownTable last takes =
          let least = some in
          let most = within in
          let many : length old.tables.items ≡ length first.plan.tables = old.many ∙ ap (λ p. length p.tables) same.0 in
          elim takes.2 [ inl none ↦ absurd (omega (arith, least, none)) | inr past ↦ absurd (omega (arith, most, many, past)) ]
      stops stop.AfterEnd last takes = let is = takes.2 start k.later k.stands in let not = k.ended_is in cc
      stops other last takes = absurd takes

    -- the end of the table
    pub ends : Fit (k.later ++ End t ∷ []) → Gave remaining r s bytes true → failures_of s ≡ failures_of r → (result : Result Unit Stop)
        → Takes gains cuts is_open failed old new t (End t) result
        → TableReads gains cuts is_open failed remaining start Fit events t r s first new (reads + 1) result
    ends fit gave steady (Ok u) takes = record { bytes = bytes; took = took_end old new bytes reads u k fit takes; gave = gave; steady = steady }
    ends fit gave steady (Err reason) takes =
        stops (End t) refl fit (goes_ended grow t events k.later k.goes)
        (subst (λ b. Gave remaining r s (text_of (k.later ++ End t ∷ []) t) b) (sym (grow.end_same k.later t))
        (subst (λ xs. Gave remaining r s xs true) (sym (grow.end_text k.later t t ∙ k.text)) gave))
        steady reason (reads + 1) takes

    -- a piece at which it stopped
    pub unfed : (piece : List ℕ) → Fit (k.later ++ Feed t piece ∷ []) → Gave remaining r s (bytes ++ piece) false → failures_of s ≡ failures_of r
        → (reason : Stop) (last : ℕ) → Takes gains cuts is_open failed old new t (Feed t piece) (Err reason)
        → TableReads gains cuts is_open failed remaining start Fit events t r s first new last (Err reason)
    unfed piece fit gave steady reason last takes =
        stops (Feed t piece) refl fit (goes_fed grow t piece events k.later k.goes)
        (subst (λ b. Gave remaining r s (text_of (k.later ++ Feed t piece ∷ []) t) b) (sym (grow.fed_ended k.later t t piece ∙ k.ended_is))
        (subst (λ xs. Gave remaining r s xs false) (sym (grow.fed k.later t piece ∙ ap (λ z. z ++ piece) k.text)) gave))
        steady reason last takes
