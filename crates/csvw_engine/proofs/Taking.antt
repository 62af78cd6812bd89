-- The tables of a session, read to their ends.
use Rattle.std.proofs.Common.{◌≡◌, ◌↔◌, ◌<◌, ◌+◌, ◌-◌, ◌^◌, ℕ, suc, Bool, true, false, List, [], ◌∷◌, ◌++◌, length, refl, sym, ap, ◌∙◌, subst, inl}
use Rattle.std.proofs.Common.{inr, arith, Contains, Option, Some, Result, Ok, Err}
use Rattle.std.specs.Prelude.{slice_get}
use Rattle.std.specs.List.{list_all}
use Rattle.std.proofs.lemmas.Option.{slice_get_within}
use Rattle.std.specs.List.Sorted.{IsPermutation}
use Rattle.std.proofs.lemmas.List.Sorted.{IsPermutation-trans, IsPermutation-append_right}
use Rattle.std.proofs.KnownBytes.{Consumes-nil}
use Rattle.std.proofs.lemmas.List.Elements.{Contains-append_left, Contains-append_right}
use Rattle.csvw_streams.specs.Counted.{inner_of, failures_of}
use Rattle.csvw_streams.specs.declared.counted.Counted.{Counted}
use Rattle.csvw_fault.specs.declared.fault.Fault.{Fault}
use Rattle.csvw_columns.specs.declared.plan.Plan.{Plan}
use Rattle.csvw_columns.specs.declared.plan.TablePlan.{TablePlan}
use Rattle.csvw_records.specs.declared.stop.RowStop.{RowStop}
use Rattle.csvw_columns_core.specs.declared.table_stop.TableStop.{TableStop}
use Rattle.csvw_triples_core.specs.Taking.{FrontOf, IsAsReady}
use Rattle.csvw_triples_core.specs.declared.mode.Mode.{Mode}
use Rattle.csvw_triples_core.specs.declared.term.Triple.{Triple}
use Rattle.csvw_triples.specs.Opening.{Opening}
use Rattle.csvw_triples.specs.OpeningTriples.{opening}
use Rattle.csvw_engine_core.specs.Tables.{is_ended}
use Rattle.csvw_engine_core.specs.declared.table.Table.{Table}
use Rattle.csvw_report.specs.declared.outcome.Outcome.{Outcome}
use Rattle.csvw_session.specs.Events.{Event, table_of, text_of, ended_in}
use Rattle.csvw_keys.specs.KeyRules.{key_faults, rules_of}
use Rattle.csvw_session.specs.Faults.{all_faults}
use Rattle.csvw_session.specs.Finishing.{Finishes}
use Rattle.csvw_session.specs.Refusing.{Refuses}
use Rattle.csvw_session.specs.Sessions.{Stands, Starts, TableStands, Takes, TookGraph}
use Rattle.csvw_session.specs.declared.session.Session.{Session}
use Rattle.csvw_engine_core.specs.declared.stop.Stop.{Stop}
use Rattle.csvw_engine_core.specs.declared.stop.Stop.TheVariants as stop
use Rattle.csvw_group_laws.specs.Annotated.{AreAnnotated}
use Rattle.csvw_group_laws.specs.Graph.{GraphOf}
use Rattle.csvw_group_laws.specs.AtEnd.{Annotates, texts_of}
use Rattle.csvw_group_laws.specs.Part.{IsCutInOpening}
use Rattle.csvw_group_laws.specs.Stopped.{TookAll, TookBy, TookSome}
use Rattle.csvw_group_laws.specs.Violations.{rows_of, tables_violations, AreViolations}
use Rattle.csvw_group_laws.specs.Taken.{AreTaken, AreTakenBefore}
use Rattle.csvw_engine.specs.ReadOrder.{AreReadIn}
use Rattle.csvw_engine.specs.Reading.{AreSteady, Gave, GaveTexts, IsSame, Reads, ReadsAll, StopsAt}
use Rattle.csvw_engine.specs.Groups.{EndsBy, GainsSome, HaveTables, SinkLeaves, TablesStop, TakesTables, TookTables}
use Rattle.csvw_engine.specs.Texts.{AreTakenButLast, GaveEvents, ReadToEnds, RefusedInText, StopsInText, piece_limit}

-- each of the tables has ended
all_ended : (plans : List TablePlan) (tables : List Table) → length tables ≡ length plans
    → ((i : ℕ) (plan : TablePlan) (table : Table) → slice_get plans i ≡ Some plan → slice_get tables i ≡ Some table → is_ended table ≡ true)
    → list_all is_ended tables ≡ true
all_ended plans [] e h = refl
all_ended [] (t ∷ ts) e h = cc
all_ended (p ∷ ps) (t ∷ ts) e h = rw (h 0 p t refl refl) (all_ended ps ts (let f = e in omega (arith, f)) (λ i plan table x y. h (suc i) plan table x y))

ready_on : {S : Type 0} (is_open : S → Bool) (failed : S → ℕ) (a b c : S) → IsAsReady is_open failed a b → IsAsReady is_open failed b c
    → IsAsReady is_open failed a c
ready_on is_open failed a b c x y = (y.0 ∙ x.0, y.1 ∙ x.1)

ended_stands : (plan : TablePlan) (mode : Mode) (table : Table) (bytes : List ℕ) (ended : Bool) (rows : List _) → ended ≡ true
    → TableStands plan mode table bytes ended rows → is_ended table ≡ true
ended_stands plan mode table bytes true rows e h = h.ended
ended_stands plan mode table bytes false rows e h = cc

-- faults that are listed, and then those of keys in another order
with_keys : (given violated keys told listed : List Fault) → given ≡ violated → IsPermutation keys told → IsPermutation (given ++ told) listed
    → IsPermutation (violated ++ keys) listed
with_keys given violated keys told listed same order all =
    IsPermutation-trans (violated ++ keys) (violated ++ told) listed (IsPermutation-append_right violated keys told order)
    (subst (λ fs. IsPermutation (fs ++ told) listed) same all)

module _ {R S : Type 0} (gains : S → List Triple → S → Type 0) (cuts : S → Triple → S → Type 0) (is_open : S → Bool) (failed : S → ℕ)
    (remaining : R → Option (List ℕ)) (order : ℕ → List Event → Type 0)
    (goes_on : (a b c : S) (xs ys : List Triple) → gains a xs b → gains b ys c → gains a (xs ++ ys) c) (sink start : S)
    (as_ready : IsAsReady is_open failed sink start) (olds news : List (Counted R)) where
  -- the session was read to its end
  module _ (old middle new : Session S) (all : ReadsAll gains is_open failed remaining order piece_limit start olds news old middle)
      (many : length olds ≡ length old.plan.tables)
      (opened : gains sink (opening old.mode old.plan) start)
      (law : (events : List Event) (s : Session S) → gains sink (opening s.mode s.plan) start → Stands gains is_open failed start events s
      → list_all is_ended s.tables.items ≡ true
      → Annotates gains sink events s) where
    read_to_ends : ReadToEnds remaining order olds news all.events
    read_to_ends = record { gave = record { gave = all.gave; read = all.read }; steady = all.steady; ended = all.ended }

    each_ended : list_all is_ended middle.tables.items ≡ true
    each_ended =
        all_ended middle.plan.tables middle.tables.items middle.many
        (λ i plan table p q.
        let below : i < length olds = let k = slice_get_within middle.plan.tables i plan p in let m = ap (λ (z : Plan). length z.tables) all.same.0 in
        omega (arith, k, m, many) in
        ended_stands plan middle.mode table (text_of all.events (i + 1)) (ended_in all.events (i + 1)) _ (all.ended i below)
        (all.stands.tables i plan table (p, q)).stands)

    -- the tables that were read
    abbrev read_tables : Annotates gains sink all.events middle
    read_tables =
        law all.events middle
        (subst (λ (p : Plan). gains sink (opening middle.mode p) start) (sym all.same.0)
        (subst (λ m. gains sink (opening m old.plan) start) (sym all.same.1) opened)) all.stands each_ended

    annotated : AreAnnotated old.plan.tables (texts_of all.events) read_tables.tables
    annotated = subst (λ (p : Plan). AreAnnotated p.tables (texts_of all.events) read_tables.tables) all.same.0 read_tables.annotated

    took_tables : new.sink ≡ middle.sink → TookTables gains is_open failed old.mode old.plan sink new.sink read_tables.tables
    took_tables e = record {
      took = subst (λ (z : S). TookGraph gains sink z (GraphOf old.mode old.plan read_tables.tables)) (sym e)
          (subst (λ (p : Plan). TookGraph gains sink middle.sink (GraphOf old.mode p read_tables.tables)) all.same.0
          (subst (λ (m : Mode). TookGraph gains sink middle.sink (GraphOf m middle.plan read_tables.tables)) all.same.1 read_tables.took));
      ready = rw e (ready_on is_open failed sink start middle.sink as_ready all.stands.ready);
    }

    whole : (outcome : Outcome) → Finishes middle new (Ok outcome)
        → TakesTables gains cuts is_open failed remaining order old.mode old.plan olds news sink new.sink (Ok outcome)
    whole outcome fin = record {
      events = all.events;
      read = read_to_ends;
      tables = read_tables.tables;
      annotated = annotated;
      violations = subst (λ (p : Plan). AreViolations p read_tables.tables outcome.faults) all.same.0 (record {
        same = with_keys (middle.plan.warnings ++ all_faults middle.tables.items)
            (middle.plan.warnings ++ tables_violations middle.plan.tables read_tables.tables) (key_faults (rules_of middle.plan) (rows_of read_tables.tables))
            fin.1.key_faults outcome.faults (ap (λ (fs : List Fault). middle.plan.warnings ++ fs) read_tables.faults)
            (fin.1.told (rules_of middle.plan) (rows_of read_tables.tables) read_tables.keys).same fin.1.faults;
        sorted = fin.1.sorted;
      });
      gives = took_tables fin.0.sink;
    }

    unfinished : new.sink ≡ middle.sink → HaveTables remaining order old.plan olds news (TookTables gains is_open failed old.mode old.plan sink new.sink)
    unfinished e = record {
      events = all.events;
      read = read_to_ends;
      tables = read_tables.tables;
      annotated = annotated;
      gives = took_tables e;
    }

    none_open : list_all is_ended middle.tables.items ≡ false → ⊥
    none_open e = let ended = each_ended in cc

    pub finished : (result : Result Outcome Stop) → Finishes middle new result
        → TakesTables gains cuts is_open failed remaining order old.mode old.plan olds news sink new.sink result
    finished (Ok outcome) fin = whole outcome fin
    finished (Err stop.Memory) fin = (
      (
        opening old.mode old.plan ++ all.stands.took.taken,
        rw fin.sink (goes_on sink start middle.sink (opening old.mode old.plan) all.stands.took.taken opened all.stands.took.gained),
      ),
      inr (refl, unfinished fin.sink),
      rw fin.sink (ready_on is_open failed sink start middle.sink as_ready all.stands.ready),
    )
    finished (Err stop.Failed) fin = let is = fin.1 in let opened = all.stands.state_is in cc
    finished (Err stop.AfterEnd) fin = let is = fin.1 in let opened = all.stands.state_is in cc
    finished (Err stop.NotEnded) fin = absurd (none_open fin.1)
    finished (Err other) fin = absurd fin

  -- or it stopped before
  module _ (old new : Session S) (opened : gains sink (opening old.mode old.plan) start)
      (all_law : (events : List Event) (s : Session S) → gains sink (opening s.mode s.plan) start → Stands gains is_open failed start events s
      → TookAll gains s.mode s.plan events sink s.sink)
      (part_law : (events : List Event) (event : Event) (s t : Session S) (n : ℕ) (reason : Stop) → gains sink (opening s.mode s.plan) start
      → IsAsReady is_open failed sink start → Stands gains is_open failed start events s → table_of event ≡ n
      → Takes gains cuts is_open failed s t n event (Err reason)
      → TookBy gains cuts is_open failed s.mode s.plan (events ++ event ∷ []) sink t.sink reason)
      (taken_law : (events : List Event) (s : Session S) → Stands gains is_open failed start events s → AreTaken s.plan.tables events) where
    -- the same by the plan and the mode of the session at its start
    at_own : (P : Mode → Plan → Type 0) (s : Session S) → IsSame old s → P s.mode s.plan → P old.mode old.plan
    at_own P s same p = subst (λ (z : Plan). P old.mode z) same.0 (subst (λ m. P m s.plan) same.1 p)

    opened_at : (s : Session S) → IsSame old s → gains sink (opening s.mode s.plan) start
    opened_at s same =
        subst (λ (p : Plan). gains sink (opening s.mode p) start) (sym same.0) (subst (λ m. gains sink (opening m old.plan) start) (sym same.1) opened)

    behind_event : (events : List Event) (reason : Stop) → StopsAt gains cuts is_open failed start old new events reason
        → TookBy gains cuts is_open failed old.mode old.plan events sink new.sink reason
    behind_event events reason s =
        at_own (λ m p. TookBy gains cuts is_open failed m p events sink new.sink reason) s.session s.same
        (subst (λ es. TookBy gains cuts is_open failed s.session.mode s.session.plan es sink new.sink reason) (sym s.all)
        (part_law s.before s.event s.session new s.t reason (opened_at s.session s.same) as_ready s.stands s.of_table s.takes))

    -- what its sink took before that
    some_gained : (reason : Stop) → Reads gains cuts is_open failed remaining order piece_limit start olds news old new (Err reason)
        → GainsSome gains start new.sink
    some_gained stop.Memory h =
        let s = h.stops in
        let k = s.takes.1 start s.before s.stands in (
          s.stands.took.taken ++ k.0.leaves.took.front,
          goes_on start s.session.sink new.sink s.stands.took.taken k.0.leaves.took.front s.stands.took.gained k.0.leaves.took.gained,
        )
    some_gained stop.Read h = (h.stands.took.taken, h.stands.took.gained)
    some_gained stop.Write h =
        let s = h.stops in
        let k = s.takes.1 start s.before s.stands in (
          s.stands.took.taken ++ k.0.leaves.took.front,
          goes_on start s.session.sink new.sink s.stands.took.taken k.0.leaves.took.front s.stands.took.gained k.0.leaves.took.gained,
        )
    some_gained (stop.Rows t row reason) h =
        let s = h.stops in
        let k = s.takes.2 start s.before s.stands in
        (s.stands.took.taken ++ _, goes_on start s.session.sink new.sink s.stands.took.taken _ s.stands.took.gained k.0.leaves.took)
    some_gained (stop.Table t row reason) h =
        let s = h.stops in
        let k = s.takes.2 start s.before s.stands in
        (s.stands.took.taken ++ _, goes_on start s.session.sink new.sink s.stands.took.taken _ s.stands.took.gained k.0.leaves.took)
    some_gained other h = absurd h

    gained_behind : GainsSome gains start new.sink → GainsSome gains sink new.sink
    gained_behind h = (opening old.mode old.plan ++ h.0, goes_on sink start new.sink (opening old.mode old.plan) h.0 opened h.1)

    ready_at : (between : S) → IsAsReady is_open failed start between → IsAsReady is_open failed between new.sink → IsAsReady is_open failed sink new.sink
    ready_at between x y = ready_on is_open failed sink start new.sink as_ready (ready_on is_open failed start between new.sink x y)

    -- the events before the last were taken
    taken_before : (events : List Event) (reason : Stop) (t : ℕ) (s : StopsAt gains cuts is_open failed start old new events reason) → s.t ≡ t
        → AreTakenBefore old.plan.tables events t
    taken_before events reason t s e = record {
      before = s.before;
      event = s.event;
      all = s.all;
      of_table = s.of_table ∙ e;
      taken = subst (λ (p : Plan). AreTaken p.tables s.before) s.same.0 (taken_law s.before s.session s.stands);
    }

    taken_but_last : (events : List Event) (reason : Stop) → StopsAt gains cuts is_open failed start old new events reason → AreTakenButLast old.plan events
    taken_but_last events reason s = inr (s.t, taken_before events reason s.t s refl)

    in_text : (events : List Event) (t row : ℕ) (reason : RowStop) → StopsAt gains cuts is_open failed start old new events (stop.Rows t row reason)
        → StopsInText old.plan events t row reason
    in_text events t row reason s =
        let at = (s.takes.2 start s.before s.stands).0 in record {
          i = at.i;
          number = at.number ∙ sym s.takes.1;
          table = at.plan;
          is_at = subst (λ (p : Plan). slice_get p.tables at.i ≡ Some at.plan) s.same.0 at.is_at.0;
          before = taken_before events (stop.Rows t row reason) t s (sym s.takes.1);
          given = at.given ++ at.leaves.raws;
          columns = at.leaves.columns;
          faults = at.leaves.faults;
          rows = _;
          rows_before = at.leaves.table;
          stopped = rw (s.all, s.takes.1) at.leaves.why;
        }

    refused_in : (events : List Event) (t row : ℕ) (reason : TableStop) → StopsAt gains cuts is_open failed start old new events (stop.Table t row reason)
        → RefusedInText old.plan events t row reason
    refused_in events t row reason s =
        let at = (s.takes.2 start s.before s.stands).0 in record {
          i = at.i;
          number = at.number ∙ sym s.takes.1;
          table = at.plan;
          is_at = subst (λ (p : Plan). slice_get p.tables at.i ≡ Some at.plan) s.same.0 at.is_at.0;
          before = taken_before events (stop.Table t row reason) t s (sym s.takes.1);
          given = at.given ++ at.leaves.raws;
          columns = at.leaves.columns;
          faults = at.leaves.faults;
          rows = _;
          rows_before = at.leaves.table;
          refused = rw (s.all, s.takes.1) at.leaves.why;
        }

    stopped : (reason : Stop) → Reads gains cuts is_open failed remaining order piece_limit start olds news old new (Err reason)
        → TablesStop remaining order old.plan olds news (SinkLeaves gains cuts is_open failed old.mode old.plan sink new.sink)
        (TookTables gains is_open failed old.mode old.plan sink new.sink) reason
    stopped stop.Memory h =
        inl (
          h.events,
          record { gave = h.gave; read = h.read },
          ((h.steady, taken_but_last h.events stop.Memory h.stops), behind_event h.events stop.Memory h.stops),
        )
    stopped stop.Write h =
        inl (
          h.events,
          record { gave = h.gave; read = h.read },
          ((h.steady, taken_but_last h.events stop.Write h.stops), behind_event h.events stop.Write h.stops),
        )
    stopped stop.Read h = inl (
      h.events,
      record { gave = h.gave; read = h.read },
      (
        (h.blame, subst (λ (p : Plan). AreTaken p.tables h.events) h.same.0 (taken_law h.events new h.stands)),
        at_own (λ m p. TookAll gains m p h.events sink new.sink) new h.same (all_law h.events new (opened_at new h.same) h.stands),
      ),
    )
    stopped (stop.Rows t row reason) h =
        inl (
          h.events,
          record { gave = h.gave; read = h.read },
          ((h.steady, in_text h.events t row reason h.stops), behind_event h.events (stop.Rows t row reason) h.stops),
        )
    stopped (stop.Table t row reason) h =
        inl (
          h.events,
          record { gave = h.gave; read = h.read },
          ((h.steady, refused_in h.events t row reason h.stops), behind_event h.events (stop.Table t row reason) h.stops),
        )
    stopped other h = absurd h

    ends_by : (reason : Stop) → Reads gains cuts is_open failed remaining order piece_limit start olds news old new (Err reason)
        → EndsBy (IsAsReady is_open failed sink new.sink) (is_open sink ≡ true → failed sink < 2 ^ 64 - 1 → failed new.sink ≡ failed sink + 1) reason
    ends_by stop.Memory h = let s = h.stops in ready_at s.session.sink s.stands.ready (s.takes.1 start s.before s.stands).1
    ends_by stop.Read h = ready_on is_open failed sink start new.sink as_ready h.stands.ready
    ends_by stop.Write h =
        let s = h.stops in
        let r = ready_on is_open failed sink start s.session.sink as_ready s.stands.ready in
        λ begun room. (s.takes.1 start s.before s.stands).2 (r.0 ∙ begun) (rw r.1 room) ∙ ap (λ n. n + 1) r.1
    ends_by (stop.Rows t row reason) h = let s = h.stops in ready_at s.session.sink s.stands.ready (s.takes.2 start s.before s.stands).1
    ends_by (stop.Table t row reason) h = let s = h.stops in ready_at s.session.sink s.stands.ready (s.takes.2 start s.before s.stands).1
    ends_by other h = absurd h

    pub stops : (reason : Stop) → Reads gains cuts is_open failed remaining order piece_limit start olds news old new (Err reason)
        → TakesTables gains cuts is_open failed remaining order old.mode old.plan olds news sink new.sink (Err reason)
    stops reason h = (gained_behind (some_gained reason h), stopped reason h, ends_by reason h)

-- the triples of the group and its tables
abbrev pub OpeningIsGraph : Type 0
OpeningIsGraph = (m : Mode) (plan : Plan) (x : Triple) → Contains (opening m plan) x ↔ Opening m plan x

pub opening_cut : OpeningIsGraph → (m : Mode) (plan : Plan) (front rest : List Triple) → opening m plan ≡ front ++ rest → IsCutInOpening m plan [] front rest
opening_cut law m plan front rest e = record {
  none = refl;
  within = λ x c. (law m plan x).0 (subst (λ ts. Contains ts x) (sym e) (Contains-append_left front rest x c));
  next = λ x xs f. (law m plan x).0
      (subst (λ ts. Contains ts x) (sym e) (Contains-append_right front rest x (subst (λ ts. Contains ts x) (sym f) (0, omega arith, refl))));
}

same_place : {X : Type 0} (xs : List X) (i : ℕ) (x y : X) → slice_get xs i ≡ Some x → slice_get xs i ≡ Some y → x ≡ y
same_place xs i x y e f = let k : Some x ≡ Some y = sym e ∙ f in cc

-- no reader was read
none_given : {R : Type 0} (remaining : R → Option (List ℕ)) (olds : List (Counted R)) → GaveTexts remaining olds olds []
none_given remaining olds = record {
  many = refl;
  each = λ i r s p q. subst (λ z. Gave remaining r z [] false) (same_place olds i r s p q)
      (record { consumed = Consumes-nil (remaining (inner_of r)); at_end = λ e. cc; ended_is = refl });
}

pub none_failed : {R : Type 0} (olds : List (Counted R)) → AreSteady olds olds
none_failed olds i r s p q = ap failures_of (sym (same_place olds i r s p q))

pub none_read : {R : Type 0} (remaining : R → Option (List ℕ)) (order : ℕ → List Event → Type 0) (olds : List (Counted R))
    → AreReadIn order (length olds) piece_limit [] → GaveEvents remaining order (length olds) olds olds []
none_read remaining order olds by = record { gave = none_given remaining olds; read = by }

-- a front of the triples of the group and its tables was taken
abbrev pub took_opening : {S : Type 0} (gains : S → List Triple → S → Type 0) (cuts : S → Triple → S → Type 0) (is_open : S → Bool) (failed : S → ℕ)
    (law : OpeningIsGraph) (m : Mode) (plan : Plan) (sink now : S) (stays : gains sink [] sink) (Fails : Type 0)
    → FrontOf gains cuts sink (opening m plan) now Fails → TookSome gains cuts is_open failed m plan [] sink now Fails
took_opening gains cuts is_open failed law m plan sink now stays Fails h = record {
  taken = [];
  middle = sink;
  gained = stays;
  ready = (refl, refl);
  more = opening m plan;
  took = h;
  cut = λ front rest e. inl (opening_cut law m plan front rest e);
}

-- a session that did not start
module _ {R S : Type 0} (gains : S → List Triple → S → Type 0) (cuts : S → Triple → S → Type 0) (is_open : S → Bool) (failed : S → ℕ)
    (remaining : R → Option (List ℕ)) (law : OpeningIsGraph)
    (order : ℕ → List Event → Type 0) (m : Mode) (plan : Plan) (olds : List (Counted R)) (by : AreReadIn order (length olds) piece_limit [])
    (sink now : S) (stays : gains sink [] sink) where
  some_taken : (Fails : Type 0) → FrontOf gains cuts sink (opening m plan) now Fails → TookSome gains cuts is_open failed m plan [] sink now Fails
  some_taken = took_opening gains cuts is_open failed law m plan sink now stays

  pub refused : (reason : Stop) → Refuses gains cuts is_open failed plan m sink now reason
      → TakesTables gains cuts is_open failed remaining order m plan olds olds sink now (Err reason)
  refused stop.Memory h =
      ((h.0.front, h.0.gained), inl ([], none_read remaining order olds by, ((none_failed olds, inl refl), some_taken ⊥ h.0)), h.1)
  refused stop.Write h =
      ((h.0.front, h.0.gained), inl ([], none_read remaining order olds by, ((none_failed olds, inl refl), some_taken (is_open sink ≡ true) h.0)), h.2)
  refused other h = absurd h

-- a session at its start has its own plan and mode
pub starts_own : {S : Type 0} (gains : S → List Triple → S → Type 0) (is_open : S → Bool) (failed : S → ℕ) (plan : Plan) (m : Mode) (sink : S) (s : Session S)
    → Starts gains is_open failed plan m sink s → Starts gains is_open failed s.plan s.mode sink s
starts_own gains is_open failed plan m sink s h = record {
  plan_is = refl;
  mode_is = refl;
  opened = subst (λ (p : Plan). gains sink (opening s.mode p) s.sink) (sym h.plan_is)
      (subst (λ n. gains sink (opening n plan) s.sink) (sym h.mode_is) h.opened);
  ready = h.ready;
  stands = h.stands;
}
