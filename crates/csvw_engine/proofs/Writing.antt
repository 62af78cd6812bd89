-- The graph of a group, as N-Triples.
use Rattle.std.proofs.Common.{◌≡◌, ◌↔◌, ◌<◌, ◌+◌, ◌-◌, ◌^◌, ℕ, true, List, [], ◌∷◌, ◌++◌, length, refl, sym, ap, ◌∙◌, subst, arith, inl, inr}
use Rattle.std.proofs.Common.{append-nil, append_assoc, map, take, Contains, Option, Some, None, Result, Ok, Err}
use Rattle.std.proofs.KnownBytes.{Appends-nil, Appends-trans}
use Rattle.std.specs.List.{AllByRecursion}
use Rattle.std.specs.Io.KnownBytes.{Appends}
use Rattle.csvw_streams.specs.declared.counted.Counted.{Counted}
use Rattle.csvw_streams.specs.Counted.{inner_of, failures_of}
use Rattle.csvw_streams.specs.Streams.{Stream, stream_of}
use Rattle.csvw_columns_core.specs.declared.columns.Columns.{Columns}
use Rattle.csvw_columns.specs.declared.plan.Plan.{Plan}
use Rattle.csvw_annotate.specs.declared.row.Row.{Row}
use Rattle.csvw_triples_core.specs.Taking.{IsAsReady, IsCutAfter}
use Rattle.csvw_triples_core.specs.declared.mode.Mode.{Mode}
use Rattle.csvw_triples_core.specs.declared.mode.Mode.TheVariants as mode
use Rattle.csvw_triples_core.specs.declared.term.Triple.{Triple}
use Rattle.csvw_ntriples.specs.declared.nt_sink.NtSink.{NtSink}
use Rattle.csvw_ntriples.specs.Grammar.{Denotes}
use Rattle.csvw_ntriples.specs.NtSink.{sink_out, sink_is_open}
use Rattle.csvw_ntriples.specs.SameUpTo.{SameUpTo}
use Rattle.csvw_ntriples.specs.SendingLaws.{all_fit, written-append}
use Rattle.csvw_ntriples.specs.Writable.{TripleFits}
use Rattle.csvw_ntriples.specs.Written.{written, said}
use Rattle.csvw_report.specs.declared.outcome.Outcome.{Outcome}
use Rattle.csvw_session.specs.Events.{Event}
use Rattle.csvw_session.specs.Sessions.{TookGraph}
use Rattle.csvw_engine_core.specs.declared.stop.Stop.{Stop}
use Rattle.csvw_engine_core.specs.declared.stop.Stop.TheVariants as stop
use Rattle.csvw_group_laws.specs.Annotated.{Table}
use Rattle.csvw_group_laws.specs.Graph.{GraphOf}
use Rattle.csvw_group_laws.specs.Part.{TablePart, FirstRowGraph, PartGraph, IsCutShort}
use Rattle.csvw_group_laws.specs.Stopped.{TookAll, TookSome}
use Rattle.csvw_engine.specs.Groups.{Converts, EndsBy, SinkLeaves, TakesTables}
use Rattle.csvw_engine.specs.Runs.{Wrote, WroteGraph}
use Rattle.csvw_engine.specs.Rooms.{IsOrder}
use Rattle.csvw_engine.specs.Texts.{IsReason, piece_limit}
use Rattle.csvw_engine.specs.declared.room.Order.{Order}
use Rattle.csvw_engine.specs.ReadOrder.{AreReadIn}
use Rattle.csvw_engine.specs.Lines.{cuts_lines}
use Rattle.csvw_engine.specs.Stopped.{Added, IsFrontOfLine, Leaves, WroteAll, WroteLines, WroteSome}
use Rattle.csvw_engine.proofs.Converting.{takes, failed_of, none_in, same_by, sends_whole}
use Rattle.csvw_engine.proofs.Taking.{none_failed, none_read}

-- what the lines of triples denote
pub record LineLaws : Type 0 where
  pub denotes : (ts : List Triple) → AllByRecursion TripleFits ts → Denotes (written ts) (map said ts)
  pub names : (ts : List Triple) → AllByRecursion TripleFits ts → SameUpTo (Contains ts) (map said ts)

-- a list without members
nothing_in : (ts : List Triple) → ((x : Triple) → Contains ts x → ⊥) → ts ≡ []
nothing_in [] none = refl
nothing_in (t ∷ ts) none = absurd (none t (0, omega arith, refl))

-- as ready as before or a failed write, in other words
pub ends_as : (Ready Fails Ready' Fails' : Type 0) → (Ready → Ready') → (Fails → Fails') → (reason : Stop) → EndsBy Ready Fails reason
    → EndsBy Ready' Fails' reason
ends_as a b c d f g stop.Write h = g h
ends_as a b c d f g other h = f h

-- mode Validate has no triples
no_row : (t : ℕ) (columns : Option Columns) (rows : List Row) (x : Triple) → FirstRowGraph mode.Validate t columns rows x → ⊥
no_row t None rows x h = h
no_row t (Some columns) [] x h = h
no_row t (Some columns) (row ∷ rows) x h = h

no_part : (plan : Plan) (parts : ℕ → TablePart) (x : Triple) → PartGraph mode.Validate plan parts x → ⊥
no_part plan parts x h = elim h [ inl k ↦ k | inr k ↦ k.3 ]

none_cut : (plan : Plan) (events : List Event) (ts rest : List Triple) → IsCutShort mode.Validate plan events ts rest → (x : Triple) → Contains ts x → ⊥
none_cut plan events ts rest (inl h) x c = h.within x c
none_cut plan events ts rest (inr h) x c = elim (h.within x c) [
  | inl g ↦ no_part plan h.parts x g
  | inr g ↦ no_row h.have.plan.number (h.parts h.i).columns h.behind x g
]

none_next : (plan : Plan) (events : List Event) (ts rest : List Triple) → IsCutShort mode.Validate plan events ts rest
    → (x : Triple) (xs : List Triple) → rest ≡ x ∷ xs → ⊥
none_next plan events ts rest (inl h) x xs e = h.next x xs e
none_next plan events ts rest (inr h) x xs e = no_row h.have.plan.number (h.parts h.i).columns h.behind x (h.next x xs e)

no_line : (plan : Plan) (events : List Event) (ts rest : List Triple) (more : List ℕ) → IsCutShort mode.Validate plan events ts rest
    → IsFrontOfLine rest more → more ≡ []
no_line plan events ts [] more h line = line
no_line plan events ts (x ∷ xs) more h line = absurd (none_next plan events ts (x ∷ xs) h x xs refl)

no_more : (rest : List Triple) → IsFrontOfLine rest []
no_more [] = refl
no_more (next ∷ rest) = inl refl

-- a stream that a sink writes to, from one state to another
pub record Streams {W : Type 0} (contents : W → Option (List ℕ)) (out : Stream) (start now : NtSink W) : Type 0 where
  pub begun : sink_is_open start ≡ true
  pub held : out.held ≡ contents (inner_of (sink_out start).now)
  pub holds : out.holds ≡ contents (inner_of (sink_out now).now)
  pub failures : out.failures ≡ failed_of start
  pub failed : out.failed ≡ failed_of now

pub streams_of : {W : Type 0} (contents : W → Option (List ℕ)) (out wrote : Counted W) (start now : NtSink W) → sink_is_open start ≡ true
    → (sink_out start).now ≡ out → wrote ≡ (sink_out now).now
    → Streams contents (stream_of contents out wrote) start now
streams_of contents out wrote start now o p q = record {
  begun = o;
  held = ap (λ v. contents (inner_of v)) (sym p);
  holds = ap (λ v. contents (inner_of v)) q;
  failures = ap failures_of (sym p);
  failed = ap failures_of q;
}

-- the sink lends the same writer
pub same_lent : {R W : Type 0} (contents : W → Option (List ℕ)) (remaining : R → Option (List ℕ))
    (order : ℕ → List Event → Type 0) (m : Mode) (plan : Plan) (olds news : List (Counted R)) (start now : NtSink W) (result : Result Outcome Stop)
    → TakesTables (takes contents) (cuts_lines contents) sink_is_open failed_of remaining order m plan olds news start now result
    → (sink_out now).ghost_name ≡ (sink_out start).ghost_name
same_lent contents remaining order m plan olds news start now (Ok outcome) h = h.gives.took.gained.0
same_lent contents remaining order m plan olds news start now (Err reason) ((_, (lent, _, _)), _, _) = lent

module _ {W : Type 0} (contents : W → Option (List ℕ)) (laws : LineLaws) (out : Stream) (start now : NtSink W) (streams : Streams contents out start now) where
  steady : IsAsReady sink_is_open failed_of start now → out.failed ≡ out.failures
  steady r = streams.failed ∙ (r.1 ∙ sym streams.failures)

  lines : (ts : List Triple) → takes contents start ts now → IsAsReady sink_is_open failed_of start now → Appends out.held out.holds (written ts)
  lines ts g r = rw (streams.held, streams.holds)
      (sends_whole (contents (inner_of (sink_out start).now)) (contents (inner_of (sink_out now).now)) (sink_is_open start)
      (sink_is_open now) ts streams.begun (r.0 ∙ streams.begun) g.2)

  wrote_graph : (Graph : Triple → Type 0) → TookGraph (takes contents) start now Graph → IsAsReady sink_is_open failed_of start now → WroteGraph out Graph
  wrote_graph Graph k r = record {
    added = written k.taken;
    sent = (lines k.taken k.gained r, steady r);
    triples = map said k.taken;
    denotes = laws.denotes k.taken k.gained.1;
    same = same_by (Contains k.taken) Graph (map said k.taken) (λ x. (k.within x, k.whole x)) (laws.names k.taken k.gained.1);
  }

  -- whole lines of these triples, and these bytes, by the mode
  lines_added : (m : Mode) (Graph : Triple → Type 0) (ts : List Triple) (more : List ℕ) → AllByRecursion TripleFits ts
      → Appends out.held out.holds (written ts ++ more)
      → (m ≡ mode.Validate → ts ≡ []) → (m ≡ mode.Validate → more ≡ []) → ((x : Triple) → Contains ts x ↔ Graph x) → Added m out Graph more
  lines_added mode.Validate Graph ts more fits a none no_more same =
      subst (λ xs. Appends out.held out.holds (written xs)) (none refl)
      (subst (λ xs. Appends out.held out.holds xs) (ap (λ bs. written ts ++ bs) (no_more refl) ∙ append-nil (written ts)) a)
  lines_added mode.Minimal Graph ts more fits a none no_more same = record {
    put = ts;
    added = a;
    triples = map said ts;
    denotes = laws.denotes ts fits;
    same = same_by (Contains ts) Graph (map said ts) same (laws.names ts fits);
  }
  lines_added mode.Standard Graph ts more fits a none no_more same = record {
    put = ts;
    added = a;
    triples = map said ts;
    denotes = laws.denotes ts fits;
    same = same_by (Contains ts) Graph (map said ts) same (laws.names ts fits);
  }

  graph_added : (m : Mode) (Graph : Mode → Triple → Type 0) → ((x : Triple) → Graph mode.Validate x → ⊥) → TookGraph (takes contents) start now (Graph m)
      → IsAsReady sink_is_open failed_of start now → Added m out (Graph m) []
  graph_added m Graph none k r =
      lines_added m (Graph m) k.taken [] k.gained.1
      (subst (λ xs. Appends out.held out.holds xs) (sym (append-nil (written k.taken))) (lines k.taken k.gained r))
      (λ e. nothing_in k.taken (λ x c. none x (subst (λ z. Graph z x) e (k.within x c)))) (λ e. refl) (λ x. (k.within x, k.whole x))

  pub all_written : (m : Mode) (plan : Plan) (events : List Event) → TookAll (takes contents) m plan events start now
      → IsAsReady sink_is_open failed_of start now
      → WroteAll m plan out events
  all_written m plan events k r =
      record { parts = k.parts; have = k.have; added = graph_added m (λ z. PartGraph z plan k.parts) (no_part plan k.parts) k.took r }

  module _ (m : Mode) (plan : Plan) (events : List Event) (Fails : Type 0)
      (k : TookSome (takes contents) (cuts_lines contents) sink_is_open failed_of m plan events start now Fails) where
    -- up to the last call
    before : Appends out.held (contents (inner_of (sink_out k.middle).now)) (written k.taken)
    before = rw streams.held
        (sends_whole (contents (inner_of (sink_out start).now)) (contents (inner_of (sink_out k.middle).now)) (sink_is_open start)
        (sink_is_open k.middle) k.taken
        streams.begun (k.ready.0 ∙ streams.begun) k.gained.2)

    both : (front : List Triple) (more : List ℕ) → Appends (contents (inner_of (sink_out k.middle).now)) out.holds (written front ++ more)
        → Appends out.held out.holds (written (k.taken ++ front) ++ more)
    both front more a =
        subst (λ xs. Appends out.held out.holds xs)
        (sym (append_assoc (written k.taken) (written front) more) ∙ ap (λ xs. xs ++ more) (sym (written-append k.taken front)))
        (Appends-trans out.held (contents (inner_of (sink_out k.middle).now)) out.holds (written k.taken) (written front ++ more) before a)

    -- these triples were written, these were to come, and these bytes are a front of the next line
    pub record WroteFront (more : List ℕ) : Type 0 where
      pub wrote : WroteSome m plan out events more
      pub triples_are : wrote.triples ≡ k.taken ++ k.took.front
      pub rest_is : wrote.rest ≡ k.took.rest

    some_written : (more : List ℕ) → IsFrontOfLine k.took.rest more
        → Appends (contents (inner_of (sink_out k.middle).now)) out.holds (written k.took.front ++ more) → WroteFront more
    some_written more line a =
        let front = k.took.front in
        let rest = k.took.rest in
        let cut = k.cut front rest k.took.parts in record {
          wrote = record {
            triples = k.taken ++ front;
            rest = rest;
            cut = cut;
            line = line;
            added = lines_added m (Contains (k.taken ++ front)) (k.taken ++ front) more (all_fit k.taken front k.gained.1 k.took.gained.1)
                (both front more a)
                (λ v. nothing_in (k.taken ++ front)
                (none_cut plan events (k.taken ++ front) rest (subst (λ z. IsCutShort z plan events (k.taken ++ front) rest) v cut)))
                (λ v. no_line plan events (k.taken ++ front) rest more (subst (λ z. IsCutShort z plan events (k.taken ++ front) rest) v cut) line)
                (λ x. (λ c. c, λ c. c));
          };
          triples_are = refl;
          rest_is = refl;
        }

    pub lacking : IsAsReady sink_is_open failed_of start now → WroteFront []
    lacking r =
        some_written [] (no_more k.took.rest)
        (subst (λ xs. Appends (contents (inner_of (sink_out k.middle).now)) out.holds xs) (sym (append-nil (written k.took.front)))
        (rw streams.holds
        (sends_whole (contents (inner_of (sink_out k.middle).now)) (contents (inner_of (sink_out now).now)) (sink_is_open k.middle)
        (sink_is_open now) k.took.front
        (k.ready.0 ∙ streams.begun) (r.0 ∙ streams.begun) k.took.gained.2)))

    -- the front of a line that was sent of the triple within which the writer failed
    module _ (c : IsCutAfter (takes contents) (cuts_lines contents) k.middle k.took.front k.took.rest now) where
      sent : List ℕ
      sent = take c.cut.3.sent (written (c.next ∷ []))

      its_line : IsFrontOfLine k.took.rest sent
      unfolding sent
      its_line = rw c.rest_is (inr (c.cut.3.fits, c.cut.3.sent, c.cut.3.short, refl))

      its_bytes : Appends (contents (inner_of (sink_out k.middle).now)) out.holds (written k.took.front ++ sent)
      unfolding sent
      its_bytes =
          rw streams.holds
          (Appends-trans (contents (inner_of (sink_out k.middle).now)) (contents (inner_of (sink_out c.middle).now)) (contents (inner_of (sink_out now).now))
          (written k.took.front) (take c.cut.3.sent (written (c.next ∷ [])))
          (sends_whole (contents (inner_of (sink_out k.middle).now)) (contents (inner_of (sink_out c.middle).now)) (sink_is_open k.middle)
          (sink_is_open c.middle) k.took.front (k.ready.0 ∙ streams.begun) c.cut.1 c.before.2) c.cut.3.added)

    pub failing : Fails → (more : List ℕ) × WroteFront more
    failing fails = let c = k.took.cut fails in (sent c, some_written (sent c) (its_line c) (its_bytes c))

  leaves : (m : Mode) (plan : Plan) (reason : Stop) (events : List Event) → {R : Type 0} (olds news : List (Counted R)) → IsReason plan olds news reason events
      → SinkLeaves (takes contents) (cuts_lines contents) sink_is_open failed_of m plan start now reason events
      → EndsBy (IsAsReady sink_is_open failed_of start now)
      (sink_is_open start ≡ true → failed_of start < 2 ^ 64 - 1 → failed_of now ≡ failed_of start + 1) reason
      → Leaves m plan out reason events
  leaves m plan stop.Memory events olds news because k r = (lacking m plan events ⊥ k r).wrote
  leaves m plan stop.Write events olds news because k r =
      let w = failing m plan events (sink_is_open start ≡ true) k streams.begun in (w.0, w.1.wrote)
  leaves m plan stop.Read events olds news because k r = all_written m plan events k r
  leaves m plan (stop.Rows t row reason) events olds news because k r = all_written m plan events k r
  leaves m plan (stop.Table t row reason) events olds news because k r = all_written m plan events k r
  leaves m plan other events olds news because k r = absurd because

  -- mode Validate has no triples
  no_graph : (plan : Plan) (tables : List Table) (x : Triple) → GraphOf mode.Validate plan tables x → ⊥
  no_graph plan tables x h = elim h [ inl k ↦ k | inr k ↦ k.5 ]

  wrote : (m : Mode) (plan : Plan) (tables : List Table) → TookGraph (takes contents) start now (GraphOf m plan tables)
      → IsAsReady sink_is_open failed_of start now → Wrote m out plan tables
  wrote mode.Validate plan tables k r = (
    subst (λ ts. Appends out.held out.holds (written ts)) (nothing_in k.taken (λ x c. no_graph plan tables x (k.within x c)))
        (lines k.taken k.gained r),
    steady r,
  )
  wrote mode.Minimal plan tables k r = wrote_graph (GraphOf mode.Minimal plan tables) k r
  wrote mode.Standard plan tables k r = wrote_graph (GraphOf mode.Standard plan tables) k r

  graph_of : (m : Mode) (plan : Plan) (tables : List Table) → TookGraph (takes contents) start now (GraphOf m plan tables)
      → IsAsReady sink_is_open failed_of start now
      → Added m out (GraphOf m plan tables) []
  graph_of m plan tables k r = graph_added m (λ z. GraphOf z plan tables) (no_graph plan tables) k r

  pub converted : {R : Type 0} (remaining : R → Option (List ℕ)) (order : ℕ → List Event → Type 0) (m : Mode) (plan : Plan)
      (olds news : List (Counted R)) (result : Result Outcome Stop)
      → TakesTables (takes contents) (cuts_lines contents) sink_is_open failed_of remaining order m plan olds news start now result
      → Converts remaining order m plan olds news out result
  converted remaining order m plan olds news (Ok outcome) h = record {
    events = h.events;
    read = h.read;
    tables = h.tables;
    annotated = h.annotated;
    violations = h.violations;
    gives = (wrote m plan h.tables h.gives.took h.gives.ready, graph_of m plan h.tables h.gives.took h.gives.ready);
  }
  converted remaining order m plan olds news (Err reason) (_, stops, ends) = (
    elim stops [
      | inl (events, gave, (because, left)) ↦ inl (events, gave, (because, leaves m plan reason events olds news because left ends))
      | inr (memory, whole) ↦ inr (
        memory,
        record {
          events = whole.events;
          read = whole.read;
          tables = whole.tables;
          annotated = whole.annotated;
          gives = graph_of m plan whole.tables whole.gives.took whole.gives.ready;
        },
      )
    ],
    ends_as _ _ _ _ steady (λ fails room. streams.failed
        ∙ (fails streams.begun (rw streams.failures at room) ∙ ap (λ n. n + 1) (sym streams.failures))) reason ends,
  )

  -- at an order, a plan and a mode that are these
  pub converted_at : {R : Type 0} (remaining : R → Option (List ℕ)) (order own : Order) (m n : Mode) (plan other : Plan) (olds news : List (Counted R))
      (result : Result Outcome Stop) → own ≡ order → n ≡ m → other ≡ plan
      → TakesTables (takes contents) (cuts_lines contents) sink_is_open failed_of remaining (IsOrder own) n other olds news start now result
      → Converts remaining (IsOrder order) m plan olds news out result
  converted_at remaining order own m n plan other olds news result d e f h =
      converted remaining (IsOrder order) m plan olds news result
      (subst (λ o. TakesTables (takes contents) (cuts_lines contents) sink_is_open failed_of remaining (IsOrder o) m plan olds news start now result) d
      (subst (λ z. TakesTables (takes contents) (cuts_lines contents) sink_is_open failed_of remaining (IsOrder own) z plan olds news start now result) e
      (subst (λ z. TakesTables (takes contents) (cuts_lines contents) sink_is_open failed_of remaining (IsOrder own) n z olds news start now result) f h)))

-- a stream that was left alone
abbrev pub untouched : Option (List ℕ) → ℕ → Stream
untouched known n = record { held = known; holds = known; failures = n; failed = n }

-- nothing was written, because memory ran out before the tables
pub nothing_written : {R : Type 0} (laws : LineLaws) (remaining : R → Option (List ℕ)) (order : ℕ → List Event → Type 0) (m : Mode) (plan : Plan)
    (olds : List (Counted R)) (by : AreReadIn order (length olds) piece_limit []) (known : Option (List ℕ)) (n : ℕ)
    → Converts remaining order m plan olds olds (untouched known n) (Err stop.Memory)
nothing_written laws remaining order m plan olds by known n = (
  inl (
    [],
    none_read remaining order olds by,
    (
      (none_failed olds, inl refl),
      record {
        triples = [];
        rest = [];
        cut = inl (record { none = refl; within = λ x c. absurd (none_in x c); next = λ x xs e. cc });
        line = refl;
        added = by_mode m;
      },
    ),
  ),
  refl,
)
  where
    none : WroteLines (untouched known n) (Contains []) []
    none = record { put = []; added = Appends-nil known; triples = []; denotes = laws.denotes [] tt; same = laws.names [] tt }

    by_mode : (z : Mode) → Added z (untouched known n) (Contains []) []
    by_mode mode.Validate = Appends-nil known
    by_mode mode.Minimal = none
    by_mode mode.Standard = none
