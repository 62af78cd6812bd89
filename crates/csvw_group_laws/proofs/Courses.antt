-- Sessions over good lists of events.
use Rattle.std.proofs.Common.{◌≡◌, ◌⊎◌, ◌<◌, ◌≤◌, ◌+◌, ℕ, zero, suc, Bool, true, false, List, [], ◌∷◌, ◌++◌, refl, sym, ap, ◌∙◌, subst, arith, inl}
use Rattle.std.proofs.Common.{inr, append_assoc, append-nil, length, Contains, Some, Result, Ok, Err}
use Rattle.std.specs.Prelude.{slice_get, if◌then◌else◌, ◌==◌, ◌||◌}
use Rattle.std.specs.List.{list_all}
use Rattle.std.proofs.lemmas.Bool.{and_from}
use Rattle.std.proofs.lemmas.Bool.Decides.{eqb_tells}
use Rattle.std.proofs.lemmas.Option.{slice_get_within}
use Rattle.std.proofs.lemmas.List.Elements.{Contains-append_right, Contains-append_cases}
use Rattle.csvw_records.specs.Lawful.{IsLawful}
use Rattle.csvw_columns.specs.declared.plan.TablePlan.{TablePlan}
use Rattle.csvw_annotate.specs.declared.row.Row.{Row}
use Rattle.csvw_triples_core.specs.declared.mode.Mode.{Mode}
use Rattle.csvw_triples_core.specs.declared.term.Triple.{Triple}
use Rattle.csvw_report.specs.declared.outcome.Outcome.{Outcome}
use Rattle.csvw_engine_core.specs.Tables.{is_ended}
use Rattle.csvw_engine_core.specs.declared.table.Table.{Table as State}
use Rattle.csvw_session.specs.Events.{Event, Feed, End, table_of, text_of, ended_in}
use Rattle.csvw_session.specs.Finishing.{Finishes}
use Rattle.csvw_session.specs.Order.{AreInOrder}
use Rattle.csvw_columns.specs.Ready.{AreReady}
use Rattle.csvw_session.specs.Sessions.{HasNoTable, Stands, Takes, Told}
use Rattle.csvw_session.specs.declared.session.Session.{Session}
use Rattle.csvw_session.specs.declared.state.State.TheVariants as state
use Rattle.csvw_engine_core.specs.declared.stop.Stop.{Stop}
use Rattle.csvw_engine_core.specs.declared.stop.Stop.TheVariants as stop
use Rattle.csvw_group_laws.specs.Annotated.{Table, IsAnnotated, AreAnnotated}
use Rattle.csvw_group_laws.specs.GoodEvents.{AllTaken, AreGood, EndsWell, Goes, IsTakenOrLacks, LacksFirst}
use Rattle.csvw_group_laws.specs.GoodTexts.{GoesOnToTable, GoodTextsAreAccepted}
use Rattle.csvw_group_laws.specs.AtEnd.{texts_of}
use Rattle.csvw_group_laws.proofs.Parts.{at_place}
use Rattle.csvw_group_laws.proofs.Splitting.{first_in, none_in}

by_test : (b : Bool) (piece new old more : List ℕ) → new ≡ old ++ more → (if b then piece ++ new else new) ≡ (if b then piece ++ old else old) ++ more
by_test true piece new old more e = ap (λ l. piece ++ l) e ∙ sym (append_assoc piece old more)
by_test false piece new old more e = e

-- the text of events, and of others after them
text_on : (events others : List Event) (t : ℕ) → text_of (events ++ others) t ≡ text_of events t ++ text_of others t
text_on [] others t = refl
text_on (Feed u piece ∷ events) others t =
    by_test (t == u) piece (text_of (events ++ others) t) (text_of events t) (text_of others t) (text_on events others t)
text_on (End u ∷ events) others t = text_on events others t

or_on : (b x y : Bool) → (x ≡ true → y ≡ true) → (b || x) ≡ true → (b || y) ≡ true
or_on true x y on e = refl
or_on false x y on e = on e

-- a table that was ended stays so
stays_ended : (events others : List Event) (t : ℕ) → ended_in events t ≡ true → ended_in (events ++ others) t ≡ true
stays_ended [] others t e = cc
stays_ended (Feed u piece ∷ events) others t e = stays_ended events others t e
stays_ended (End u ∷ events) others t e = or_on (t == u) (ended_in events t) (ended_in (events ++ others) t) (stays_ended events others t) e

-- after its end a table has no text
no_more : (many : ℕ) (front rest : List Event) (t : ℕ) → AreInOrder many (front ++ rest) → ended_in front t ≡ true → text_of rest t ≡ []
no_more many front [] t order e = refl
no_more many front (End u ∷ rest) t order e =
    no_more many (front ++ End u ∷ []) rest t (subst (AreInOrder many) (sym (append_assoc front (End u ∷ []) rest)) order) (stays_ended front (End u ∷ []) t e)
no_more many front (Feed u piece ∷ rest) t order e = elim (eqb_tells t u) [
  | inl same ↦
      let open_table : ended_in front u ≡ false = order.before_end front rest (Feed u piece) refl in
      let wrong : true ≡ false = sym e ∙ ap (ended_in front) same.1 ∙ open_table in cc
  | inr other ↦
      let later : List Event = front ++ Feed u piece ∷ [] in
      let rest_is : text_of rest t ≡ [] =
      no_more many later rest t (subst (AreInOrder many) (sym (append_assoc front (Feed u piece ∷ []) rest)) order)
      (stays_ended front (Feed u piece ∷ []) t e) in
      rw other.0 rest_is
]

lawful_at : (plans : List TablePlan) (i : ℕ) (plan : TablePlan) → AreReady plans → slice_get plans i ≡ Some plan → IsLawful plan.dialect
lawful_at [] i plan ready e = cc
lawful_at (p ∷ plans) zero plan ready e = let same : p ≡ plan = cc in subst (λ (z : TablePlan). IsLawful z.dialect) same ready.0.dialect
lawful_at (p ∷ plans) (suc i) plan ready e = lawful_at plans i plan ready.1 e

module _ (accepted : GoodTextsAreAccepted) {S : Type 0} (gains : S → List Triple → S → Type 0) (cuts : S → Triple → S → Type 0)
    (is_open : S → Bool) (failed : S → ℕ)
    (start : S) (events more : List Event) (event : Event) (old new : Session S) (tables : List Table) (h : Stands gains is_open failed start events old)
    (order : AreInOrder (length old.plan.tables) (events ++ event ∷ more)) (are : AreAnnotated old.plan.tables (texts_of (events ++ event ∷ more)) tables) where
  abbrev t : ℕ
  t = table_of event

  abbrev later : List Event
  later = events ++ event ∷ []

  parted : events ++ event ∷ more ≡ later ++ more
  parted = sym (append_assoc events (event ∷ []) more)

  last : ended_in later t ≡ true → text_of more t ≡ []
  last e = no_more (length old.plan.tables) later more t (subst (AreInOrder (length old.plan.tables)) parted order) e

  goes_on : (i : ℕ) (plan : TablePlan) → i + 1 ≡ t → slice_get old.plan.tables i ≡ Some plan → GoesOnToTable plan (text_of later t) (ended_in later t)
  goes_on i plan number e =
      let at = at_place old.plan.tables tables i plan are.many e in
      record {
        more = text_of more t;
        none_left = last;
        table = at.0;
        annotated = subst (λ text. IsAnnotated plan text at.0)
            (ap (text_of (events ++ event ∷ more)) number ∙ ap (λ es. text_of es t) parted ∙ text_on later more t) (are.each i plan at.0 e at.1);
      }

  has_table : HasNoTable old t → ⊥
  has_table none =
      let known = order.known event (Contains-append_right events (event ∷ more) event (first_in event more)) in
      let low = known.0 in let high = known.1 in let many = old.many in
      elim none [ inl zero_is ↦ omega (arith, low, zero_is) | inr past ↦ omega (arith, high, many, past) ]

  pub taken_or_lacks : (answer : Result Unit Stop) → Takes gains cuts is_open failed old new t event answer → IsTakenOrLacks answer
  taken_or_lacks (Ok u) k = tt
  taken_or_lacks (Err stop.Memory) k = inl refl
  taken_or_lacks (Err stop.Write) k = inr refl
  taken_or_lacks (Err stop.Failed) k = let wrong : state.Failed ≡ state.Open = sym k.1 ∙ h.state_is in cc
  taken_or_lacks (Err stop.UnknownTable) k = absurd (has_table k.2)
  taken_or_lacks (Err stop.AfterEnd) k = let wrong : true ≡ false = sym (k.2 start events h) ∙ order.before_end events more event refl in cc
  taken_or_lacks (Err (stop.Rows u row reason)) k =
      let at = (k.2 start events h).0 in
      absurd (accepted.stops at.plan (text_of later t) (ended_in later t) (at.given ++ at.leaves.raws) row reason
      (lawful_at old.plan.tables at.i at.plan old.ready at.is_at.0) (goes_on at.i at.plan at.number at.is_at.0) at.leaves.why)
  taken_or_lacks (Err (stop.Table u row reason)) k =
      let at = (k.2 start events h).0 in
      absurd (accepted.refuses at.plan (text_of later t) (ended_in later t) (at.given ++ at.leaves.raws) at.leaves.columns at.leaves.faults
      (h.rows at.i ++ at.leaves.more) row reason (lawful_at old.plan.tables at.i at.plan old.ready at.is_at.0) (goes_on at.i at.plan at.number at.is_at.0)
      at.leaves.table at.leaves.why)
  taken_or_lacks (Err other) k = absurd k

-- a test that each item passes
all_pass : {X : Type 0} (test : X → Bool) (xs : List X) → ((i : ℕ) (x : X) → slice_get xs i ≡ Some x → test x ≡ true) → list_all test xs ≡ true
all_pass test [] each = refl
all_pass test (x ∷ xs) each = and_from (test x) (list_all test xs) (each 0 x refl) (all_pass test xs (λ i y e. each (suc i) y e))

was_ended : (plan : TablePlan) (mode : Mode) (table : State) (bytes : List ℕ) (ended : Bool) (rows : List Row)
    → Told plan mode table bytes ended rows → ended ≡ true → is_ended table ≡ true
was_ended plan mode table bytes true rows told e = told.stands.ended
was_ended plan mode table bytes false rows told e = cc

-- what the law says of one call
abbrev pub GoodEventsAreTaken : {S : Type 0} → (S → List Triple → S → Type 0) → (S → Triple → S → Type 0) → (S → Bool) → (S → ℕ) → Type 0
GoodEventsAreTaken {S} gains cuts is_open failed =
    (start : S) (events more : List Event) (event : Event) (old new : Session S) (tables : List Table) (answer : Result Unit Stop)
    → Stands gains is_open failed start events old → AreInOrder (length old.plan.tables) (events ++ event ∷ more)
    → AreAnnotated old.plan.tables (texts_of (events ++ event ∷ more)) tables
    → Takes gains cuts is_open failed old new (table_of event) event answer → IsTakenOrLacks answer

module _ {S : Type 0} (gains : S → List Triple → S → Type 0) (cuts : S → Triple → S → Type 0) (is_open : S → Bool) (failed : S → ℕ)
    (law : GoodEventsAreTaken gains cuts is_open failed) (start : S) where
  -- each call returned Ok, and the session took all events
  record IsThere (events : List Event) (answers : List (Result Unit Stop)) (s last : Session S) : Type 0 where
    pub taken : AllTaken answers
    pub stands : Stands gains is_open failed start events last
    pub plan_is : last.plan ≡ s.plan

  taken_more : (u : Unit {0}) (answers : List (Result Unit Stop)) → AllTaken answers → AllTaken (Ok u ∷ answers)
  taken_more u answers all answer c = elim (Contains-append_cases (Ok u ∷ []) answers answer c) [
    | inl here ↦ only answer here
    | inr there ↦ all answer there
  ]
    where
      only : (answer : Result Unit Stop) → Contains (Ok u ∷ []) answer → answer ≡ Ok tt
      only answer (zero, below, is) = sym is
      only answer (suc k, below, is) = absurd (omega arith)

  lacks_later : (u : Unit {0}) (answers : List (Result Unit Stop)) → LacksFirst answers → LacksFirst (Ok u ∷ answers)
  lacks_later u answers k = record {
    front = Ok u ∷ k.front;
    reason = k.reason;
    rest = k.rest;
    all = ap (λ l. Ok u ∷ l) k.all;
    taken = taken_more u k.front k.taken;
    lacks = k.lacks;
  }

  course : (done events : List Event) (s last : Session S) (answers : List (Result Unit Stop)) (tables : List Table)
      → Stands gains is_open failed start done s → AreInOrder (length s.plan.tables) (done ++ events)
      → AreAnnotated s.plan.tables (texts_of (done ++ events)) tables
      → Goes gains cuts is_open failed s events answers last → LacksFirst answers ⊎ IsThere (done ++ events) answers s last
  course done [] s last answers tables h order are k = inr (record {
    taken = λ answer c. absurd (none_in answer (subst (λ l. Contains l answer) k.0 c));
    stands = subst (Stands gains is_open failed start (done ++ [])) (sym k.1) (subst (λ es. Stands gains is_open failed start es s) (sym (append-nil done)) h);
    plan_is = ap (λ (z : Session S). z.plan) k.1;
  })
  course done (event ∷ events) s last [] tables h order are k = absurd k
  course done (event ∷ events) s last (Err reason ∷ answers) tables h order are k = inl (record {
    front = [];
    reason = reason;
    rest = answers;
    all = refl;
    taken = λ answer c. absurd (none_in answer c);
    lacks = law start done events event s k.0 tables (Err reason) h order are k.1.takes;
  })
  course done (event ∷ events) s last (Ok u ∷ answers) tables h order are k =
      elim (course (done ++ event ∷ []) events k.0 last answers tables (k.1.takes start done h) in_order annotated k.2) [
        | inl lacks ↦ inl (lacks_later u answers lacks)
        | inr there ↦ inr (record {
          taken = taken_more u answers there.taken;
          stands = subst (λ es. Stands gains is_open failed start es last) (append_assoc done (event ∷ []) events) there.stands;
          plan_is = there.plan_is ∙ k.1.plan_is;
        })
      ]
    where
      parted_here : done ++ event ∷ events ≡ (done ++ event ∷ []) ++ events
      parted_here = sym (append_assoc done (event ∷ []) events)

      in_order : AreInOrder (length k.0.plan.tables) ((done ++ event ∷ []) ++ events)
      in_order = rw k.1.plan_is (subst (AreInOrder (length s.plan.tables)) parted_here order)

      annotated : AreAnnotated k.0.plan.tables (texts_of ((done ++ event ∷ []) ++ events)) tables
      annotated = rw k.1.plan_is (subst (λ es. AreAnnotated s.plan.tables (texts_of es) tables) parted_here are)

  -- a session each of whose tables was ended
  all_ended : (events : List Event) (s : Session S) → Stands gains is_open failed start events s
      → ((t : ℕ) → 1 ≤ t → t ≤ length s.plan.tables → ended_in events t ≡ true) → list_all is_ended s.tables.items ≡ true
  all_ended events s h ends = all_pass is_ended s.tables.items (λ i table e.
      let at = at_place s.tables.items s.plan.tables i table (sym s.many) e in
      let below : i < length s.plan.tables = slice_get_within s.plan.tables i at.0 at.1 in
      was_ended at.0 s.mode table (text_of events (i + 1)) (ended_in events (i + 1)) (h.rows i) (h.tables i at.0 table (at.1, e))
      (ends (i + 1) (omega arith) (omega (arith, below))))

  finishes : (events : List Event) (s finished : Session S) (result : Result Outcome Stop) → Stands gains is_open failed start events s
      → list_all is_ended s.tables.items ≡ true → Finishes s finished result → ((outcome : Outcome) × (result ≡ Ok outcome)) ⊎ (result ≡ Err stop.Memory)
  finishes events s finished (Ok outcome) h ended k = inl (outcome, refl)
  finishes events s finished (Err stop.Memory) h ended k = inr refl
  finishes events s finished (Err stop.Failed) h ended k = let wrong : state.Failed ≡ state.Open = sym k.1 ∙ h.state_is in cc
  finishes events s finished (Err stop.AfterEnd) h ended k = let wrong : state.Finished ≡ state.Open = sym k.1 ∙ h.state_is in cc
  finishes events s finished (Err stop.NotEnded) h ended k = let wrong : false ≡ true = sym k.1 ∙ ended in cc
  finishes events s finished (Err other) h ended k = absurd k

  pub ends_well : (s last : Session S) (events : List Event) (answers : List (Result Unit Stop)) (tables : List Table) → Stands gains is_open failed start [] s
      → AreGood (length s.plan.tables) events → AreAnnotated s.plan.tables (texts_of events) tables → Goes gains cuts is_open failed s events answers last
      → LacksFirst answers ⊎ EndsWell gains is_open failed start events answers last
  ends_well s last events answers tables h good are k = elim (course [] events s last answers tables h good.in_order are k) [
    | inl lacks ↦ inl lacks
    | inr there ↦
        let ended : list_all is_ended last.tables.items ≡ true = all_ended events last there.stands (rw there.plan_is good.ended) in
        inr (record {
          taken = there.taken;
          stands = there.stands;
          ended = ended;
          finish = λ finished result f. finishes events last finished result there.stands ended f;
        })
  ]
