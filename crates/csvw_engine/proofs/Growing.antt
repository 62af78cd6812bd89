-- The events of a run with one event more.
use Rattle.std.proofs.Common.{◌≡◌, ◌≢◌, ◌⊎◌, ◌<◌, ◌≤◌, ◌+◌, ◌^◌, ℕ, Bool, true, false, List, [], ◌∷◌, ◌++◌, length, refl, sym, ap, ◌∙◌, subst, arith, inl, inr}
use Rattle.std.proofs.Common.{append-nil, take}
use Rattle.std.specs.Prelude.{◌==◌, cond}
use Rattle.std.proofs.lemmas.Bool.Decides.{eqb_tells}
use Rattle.std.proofs.lemmas.List.{length_push, length-take-le}
use Rattle.std.proofs.lemmas.List.Elements.{Contains-push_cases}
use Rattle.std.proofs.lemmas.List.Sums.{sum_by_push}
use Rattle.csvw_session.specs.Events.{Event, Feed, End, table_of, ended_in}
use Rattle.csvw_session.specs.SessionLaws.{TextsGrow}
use Rattle.csvw_session.specs.Order.{AreInOrder}
use Rattle.csvw_engine.specs.ReadOrder.{AreEndedBefore, AreReads, AreTableByTable, AtEachStep, count_of}
use Rattle.csvw_engine.proofs.Readers.{here_or_not}

-- how many events are of each table
pub count_same : (events : List Event) (event : Event) (t : ℕ) → t ≡ table_of event → count_of (events ++ event ∷ []) t ≡ count_of events t + 1
count_same events event t e =
    sum_by_push (λ x. cond (t == table_of x) 1 0) events event ∙ ap (λ b. count_of events t + cond b 1 0) same
  where
    same : (t == table_of event) ≡ true
    same = elim (eqb_tells t (table_of event)) [ inl p ↦ p.0 | inr q ↦ absurd (q.1 e) ]

pub count_other : (events : List Event) (event : Event) (t : ℕ) → t ≢ table_of event → count_of (events ++ event ∷ []) t ≡ count_of events t
count_other events event t ne =
    sum_by_push (λ x. cond (t == table_of x) 1 0) events event ∙ ap (λ b. count_of events t + cond b 1 0) other ∙ omega arith
  where
    other : (t == table_of event) ≡ false
    other = elim (eqb_tells t (table_of event)) [ inl p ↦ absurd (ne p.1) | inr q ↦ q.0 ]

-- a table that was ended stays so
pub stays_ended : TextsGrow → (events : List Event) (event : Event) (t : ℕ) → ended_in events t ≡ true → ended_in (events ++ event ∷ []) t ≡ true
stays_ended grow events (Feed u piece) t e = grow.fed_ended events u t piece ∙ e
stays_ended grow events (End u) t e = elim (here_or_not t u) [
  | inl same ↦ subst (λ v. ended_in (events ++ End u ∷ []) v ≡ true) (sym same) (grow.end_same events u)
  | inr other ↦ grow.end_other events u t other ∙ e
]

pub was_open : TextsGrow → (events : List Event) (event : Event) (t : ℕ) → ended_in (events ++ event ∷ []) t ≡ false → ended_in events t ≡ false
was_open grow events event t e = by_flag (ended_in events t) refl
  where
    by_flag : (b : Bool) → ended_in events t ≡ b → ended_in events t ≡ false
    by_flag false was = was
    by_flag true was = let wrong : true ≡ false = sym (stays_ended grow events event t was) ∙ e in cc

-- A front of the events is all of them, or a front of all but the last one.
pub parted : (events front rest : List Event) (event : Event) → events ++ event ∷ [] ≡ front ++ rest
    → ((rest ≡ []) × (front ≡ events ++ event ∷ [])) ⊎ ((more : List Event) × (rest ≡ more ++ event ∷ []) × (events ≡ front ++ more))
parted events [] rest event e = inr (events, sym e, refl)
parted [] (x ∷ []) rest event e = let none : rest ≡ [] = cc in let same : x ≡ event = cc in inl (none, ap (λ z. z ∷ []) same)
parted [] (x ∷ (y ∷ front)) rest event e = cc
parted (z ∷ events) (x ∷ front) rest event e =
    let same : x ≡ z = cc in
    let tails : events ++ event ∷ [] ≡ front ++ rest = cc in
    elim (parted events front rest event tails) [
      | inl w ↦ inl (w.0, ap (λ y. y ∷ front) same ∙ ap (λ ys. z ∷ ys) w.1)
      | inr w ↦ inr (w.0, w.1, ap (λ y. y ∷ events) (sym same) ∙ ap (λ ys. x ∷ ys) w.2)
    ]

pub at_last : (P : List Event → Type 0) (events : List Event) → AtEachStep P events → P events
at_last P events each = each events [] (sym (append-nil events))

pub one_step_more : (P : List Event → Type 0) (events : List Event) (event : Event) → AtEachStep P events → P (events ++ event ∷ [])
    → AtEachStep P (events ++ event ∷ [])
one_step_more P events event each last front rest e = elim (parted events front rest event e) [
  | inl w ↦ subst P (sym w.1) last
  | inr w ↦ each front w.0 w.2
]

pub first_step : (P : List Event → Type 0) → P [] → AtEachStep P []
first_step P first [] rest e = first
first_step P first (x ∷ front) rest e = cc

-- no event
pub none_made : (many limit : ℕ) → AreReads many limit []
none_made many limit = record {
  in_order = record { known = λ event h. absurd (let below = h.1 in omega (arith, below)); before_end = λ front rest event e. none front rest event e };
  pieces = λ t piece h. absurd (let below = h.1 in omega (arith, below));
  few = omega arith;
}
  where
    none : (front rest : List Event) (event : Event) → [] ≡ front ++ event ∷ rest → ended_in front (table_of event) ≡ false
    none [] rest event e = cc
    none (x ∷ front) rest event e = cc

-- the event is the end of a table, or a piece with at least one byte and at most so many
abbrev pub IsSized : ℕ → Event → Type 0
IsSized limit event = (t : ℕ) (piece : List ℕ) → event ≡ Feed t piece → (0 < length piece) × (length piece ≤ limit)

-- an event of a table that was not ended
module _ (many limit : ℕ) (events : List Event) (event : Event) (least : 1 ≤ table_of event) (most : table_of event ≤ many)
    (going : ended_in events (table_of event) ≡ false) where
  in_front : AreInOrder many events → (front rest more : List Event) (e : Event) → e ∷ rest ≡ more ++ event ∷ [] → events ≡ front ++ more
      → ended_in front (table_of e) ≡ false
  in_front order front rest [] e tail all =
      let same : event ≡ e = cc in
      let whole : events ≡ front = all ∙ append-nil front in
      subst (λ z. ended_in front (table_of z) ≡ false) same (subst (λ zs. ended_in zs (table_of event) ≡ false) whole going)
  in_front order front rest (m ∷ more) e tail all =
      let same : m ≡ e = cc in
      order.before_end front more e (all ∙ ap (λ z. front ++ z ∷ more) same)

  order_next : AreInOrder many events → AreInOrder many (events ++ event ∷ [])
  order_next order = record {
    known = λ e h. elim (Contains-push_cases events event e h) [
      | inl before ↦ order.known e before
      | inr same ↦ subst (λ z. (1 ≤ table_of z) × (table_of z ≤ many)) same (least, most)
    ];
    before_end = λ front rest e p. elim (parted events front (e ∷ rest) event p) [
      | inl w ↦ let wrong : e ∷ rest ≡ [] = w.0 in cc
      | inr w ↦ in_front order front rest w.0 e w.1 w.2
    ];
  }

  pub reads_next : AreReads many limit events → length events < 2 ^ 40
      → IsSized limit event → AreReads many limit (events ++ event ∷ [])
  reads_next reads few sized = record {
    in_order = order_next reads.in_order;
    pieces = λ t piece h. elim (Contains-push_cases events event (Feed t piece) h) [
      | inl before ↦ reads.pieces t piece before
      | inr same ↦ sized t piece same
    ];
    few = let longer : length (events ++ event ∷ []) ≡ length events + 1 = length_push events event in omega arith;
  }

  -- and all tables before it were
  pub tables_next : TextsGrow → AreTableByTable many events → ((u : ℕ) → 1 ≤ u → u < table_of event → ended_in events u ≡ true)
      → AreTableByTable many (events ++ event ∷ [])
  tables_next grow order before = one_step_more (AreEndedBefore many) events event order last
    where
      last : AreEndedBefore many (events ++ event ∷ [])
      last t u some less within read = elim (here_or_not u (table_of event)) [
        | inl same ↦ stays_ended grow events event t (before t some (omega (arith, less, same)))
        | inr other ↦ stays_ended grow events event t
            (at_last (AreEndedBefore many) events order t u some less within (subst (λ n. 0 < n) (count_other events event u other) read))
      ]

pub end_sized : (limit t : ℕ) → IsSized limit (End t)
end_sized limit t u piece e = cc

-- of a buffer of this length, the first bytes are a piece
pub piece_sized : (limit t n : ℕ) (buf : List ℕ) → 0 < n → n ≤ length buf → length buf ≡ limit → IsSized limit (Feed t (take n buf))
piece_sized limit t n buf some within room u piece e =
    let same : take n buf ≡ piece = cc in
    let long : length (take n buf) ≡ n = length-take-le n buf within in
    subst (λ zs. (0 < length zs) × (length zs ≤ limit)) same (omega (arith, some, long), omega (arith, long, within, room))
