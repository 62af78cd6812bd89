-- A run that ends or stops, its report and its flushes.
use Rattle.std.proofs.Common.{◌≡◌, ◌≢◌, ℕ, List, [], ◌++◌, length, ◌⊎◌, refl, sym, ap, ◌∙◌, subst, inl, inr, Option, Result, Ok, Err}
use Rattle.std.proofs.Common.{append-nil}
use Rattle.std.specs.Io.KnownBytes.{Keeps}
use Rattle.std.proofs.KnownBytes.{Keeps-refl, Keeps-trans}
use Rattle.csvw_streams.specs.declared.counted.Counted.{Counted}
use Rattle.csvw_streams.specs.Count.{one_more}
use Rattle.csvw_streams.specs.Streams.{Stream, Sends, IsIdle}
use Rattle.csvw_columns.specs.declared.plan.Plan.{Plan}
use Rattle.csvw_triples_core.specs.declared.mode.Mode.{Mode}
use Rattle.csvw_triples_core.specs.declared.mode.Mode.TheVariants as mode
use Rattle.csvw_triples_core.specs.declared.term.Triple.{Triple}
use Rattle.csvw_ntriples.specs.Written.{written}
use Rattle.csvw_report.specs.Report.{report}
use Rattle.csvw_report.specs.declared.outcome.Outcome.{Outcome}
use Rattle.csvw_session.specs.Events.{Event}
use Rattle.csvw_engine_core.specs.declared.stop.Stop.{Stop}
use Rattle.csvw_engine_core.specs.declared.stop.Stop.TheVariants as stop
use Rattle.csvw_group_laws.specs.Annotated.{Table}
use Rattle.csvw_group_laws.specs.Graph.{GraphOf}
use Rattle.csvw_engine.specs.Flushes.{IsFlushed}
use Rattle.csvw_engine.specs.Groups.{Converts, EndsBy, HaveTables, TablesStop, TextsSoFar}
use Rattle.csvw_engine.specs.Planning.{IsMetaStop}
use Rattle.csvw_engine.specs.Reporting.{Reports, TellsOutcome}
use Rattle.csvw_engine.specs.Runs.{StopsAfter, IsPlanned, IsSound, Succeeds, StopsSo, WriteFails}
use Rattle.csvw_engine.specs.Runs.{ReportedFront, SentFront, Wrote, WroteGraph, WroteGroup, Rises}
use Rattle.csvw_engine.specs.Texts.{IsReason}
use Rattle.csvw_engine.specs.Stopped.{Added, Leaves, WroteAll, WroteLines, WroteSome}
use Rattle.csvw_engine.proofs.Flushing.{appends_kept, rose}
use Rattle.csvw_meta.specs.Document.{Document}

-- a stream, after a flush
abbrev pub flushed : Stream → Option (List ℕ) → ℕ → Stream
flushed s holds failed = record s { holds = holds; failed = failed }

sends_kept : (s : Stream) (holds : Option (List ℕ)) (failed : ℕ) (text : List ℕ) → Keeps s.holds holds → failed ≡ s.failed → Sends s text
    → Sends (flushed s holds failed) text
sends_kept s holds failed text keeps e h = (appends_kept s.held s.holds holds text h.0 keeps, e ∙ h.1)

graph_kept : (Graph : Triple → Type 0) (s : Stream) (holds : Option (List ℕ)) (failed : ℕ) → Keeps s.holds holds → failed ≡ s.failed
    → WroteGraph s Graph → WroteGraph (flushed s holds failed) Graph
graph_kept Graph s holds failed keeps e h = record {
  added = h.added;
  sent = sends_kept s holds failed h.added keeps e h.sent;
  triples = h.triples;
  denotes = h.denotes;
  same = h.same;
}

wrote_kept : (m : Mode) (s : Stream) (holds : Option (List ℕ)) (failed : ℕ) (plan : Plan) (tables : List Table) → Keeps s.holds holds
    → failed ≡ s.failed → Wrote m s plan tables
    → Wrote m (flushed s holds failed) plan tables
wrote_kept mode.Validate s holds failed plan tables keeps e h = sends_kept s holds failed [] keeps e h
wrote_kept mode.Minimal s holds failed plan tables keeps e h = graph_kept (GraphOf mode.Minimal plan tables) s holds failed keeps e h
wrote_kept mode.Standard s holds failed plan tables keeps e h = graph_kept (GraphOf mode.Standard plan tables) s holds failed keeps e h

wrote_soundly : (m : Mode) (s : Stream) (plan : Plan) (tables : List Table) → Wrote m s plan tables → IsSound s
wrote_soundly mode.Validate s plan tables h = h.1
wrote_soundly mode.Minimal s plan tables h = h.sent.1
wrote_soundly mode.Standard s plan tables h = h.sent.1

-- an Ok result has one outcome
ok_same : (a b : Outcome) (x : Result Outcome Stop) → x ≡ Ok a → x ≡ Ok b → a ≡ b
ok_same a b x p q = let e : Ok a ≡ Ok b = sym p ∙ q in cc

never : (a : Outcome) (reason : Stop) (x : Result Outcome Stop) → x ≡ Err reason → x ≡ Ok a → ⊥
never a reason x p q = let e : Err reason ≡ Ok a = sym p ∙ q in cc

-- the outcome was reported, and both streams are sound
record ToldOk (outcome first : Outcome) (s : Stream) (old new : ℕ) : Type 0 where
  pub same : first ≡ outcome
  pub sent : Sends s (report first.faults)
  pub steady : new ≡ old

told_kept : (outcome first : Outcome) (s : Stream) (told result : Result Outcome Stop) (old new : ℕ) → result ≡ Ok outcome → TellsOutcome first s told
    → result ≡ told → new ≡ old → ToldOk outcome first s old new
told_kept outcome first s (Ok told) result old new r (same, k) e n =
    record { same = sym same ∙ ok_same told outcome result e r; sent = k; steady = n }
told_kept outcome first s (Err reason) result old new r k e n = absurd (never outcome reason result e r)

told_ok : (outcome first : Outcome) (s : Stream) (told result : Result Outcome Stop) (old new : ℕ) → result ≡ Ok outcome → TellsOutcome first s told
    → IsFlushed told result old new → ToldOk outcome first s old new
told_ok outcome first s told result old new r t (inl (e, n)) = told_kept outcome first s told result old new r t e n
told_ok outcome first s told result old new r t (inr (e, n)) = absurd (never outcome stop.Write result e r)

no_stop : (reason : Stop) (outcome : Outcome) (told result : Result Outcome Stop) (old new : ℕ) → told ≡ Err reason → result ≡ Ok outcome
    → IsFlushed told result old new → ⊥
no_stop reason outcome told result old new t r (inl (e, n)) = never outcome reason result (e ∙ t) r
no_stop reason outcome told result old new t r (inr (e, n)) = never outcome stop.Write result e r

-- a stop before the tables, for which the document is the reason
pub stops_before : {R : Type 0} (remaining : R → Option (List ℕ)) (order : ℕ → List Event → Type 0) (described : Document) (m : Mode)
    (olds : List (Counted R)) (out report_out : Stream) → IsIdle out → IsIdle report_out → (reason : Stop) → IsMetaStop described reason
    → StopsSo remaining order described m olds olds out report_out reason
stops_before remaining order described m olds out report_out still quiet stop.Memory h = inl (refl, still, quiet)
stops_before remaining order described m olds out report_out still quiet (stop.Meta fault) h = (h, (refl, still, quiet))
stops_before remaining order described m olds out report_out still quiet other h = absurd h

module _ {R : Type 0} (remaining : R → Option (List ℕ)) (order : ℕ → List Event → Type 0) (described : Document) (m : Mode)
    (olds news : List (Counted R)) (plan : Plan) (planned : IsPlanned described plan) (many : length olds ≡ length plan.tables)
    (out : Stream) (holds : Option (List ℕ)) (failed : ℕ) (keeps : Keeps out.holds holds) (report_out : Stream) where
  abbrev after : Stream
  after = flushed out holds failed

  -- a flush keeps what was written
  lines_kept : (Graph : Triple → Type 0) (more : List ℕ) → WroteLines out Graph more → WroteLines after Graph more
  lines_kept Graph more h = record {
    put = h.put;
    added = appends_kept out.held out.holds holds (written h.put ++ more) h.added keeps;
    triples = h.triples;
    denotes = h.denotes;
    same = h.same;
  }

  added_kept : (Graph : Triple → Type 0) (more : List ℕ) (z : Mode) → Added z out Graph more → Added z after Graph more
  added_kept Graph more mode.Validate h = appends_kept out.held out.holds holds [] h keeps
  added_kept Graph more mode.Minimal h = lines_kept Graph more h
  added_kept Graph more mode.Standard h = lines_kept Graph more h

  all_kept : (events : List Event) → WroteAll m plan out events → WroteAll m plan after events
  all_kept events h = record { parts = h.parts; have = h.have; added = added_kept _ [] m h.added }

  some_kept : (events : List Event) (more : List ℕ) → WroteSome m plan out events more → WroteSome m plan after events more
  some_kept events more h = record { triples = h.triples; rest = h.rest; cut = h.cut; line = h.line; added = added_kept _ more m h.added }

  leaves_kept : (reason : Stop) (events : List Event) → Leaves m plan out reason events → Leaves m plan after reason events
  leaves_kept stop.Memory events h = some_kept events [] h
  leaves_kept stop.Write events h = (h.0, some_kept events h.0 h.1)
  leaves_kept stop.Read events h = all_kept events h
  leaves_kept (stop.Rows t row reason) events h = all_kept events h
  leaves_kept (stop.Table t row reason) events h = all_kept events h
  leaves_kept other events h = h

  -- the texts so far, and what was written of them
  abbrev InTexts : Stop → Type 0
  InTexts reason = TextsSoFar remaining order olds news (λ events. IsReason plan olds news reason events × Leaves m plan out reason events)

  stops_after : (reason : Stop) → InTexts reason → StopsAfter remaining order described m olds news after reason
  stops_after reason (events, gave, (because, left)) =
      (plan, events, record { planned = planned; many = many; gave = gave }, (because, leaves_kept reason events left))

  -- the whole graph, without a report
  group : HaveTables remaining order plan olds news (λ tables. Added m out (GraphOf m plan tables) []) → IsIdle report_out
      → WroteGroup remaining order described m olds news after report_out
  group h quiet = record {
    plan = plan;
    planned = planned;
    many = many;
    events = h.events;
    read = h.read;
    tables = h.tables;
    annotated = h.annotated;
    added = added_kept (GraphOf m plan h.tables) [] m h.gives;
    reported = inl (subst (Keeps report_out.held) (sym quiet.0) (Keeps-refl report_out.held));
  }

  -- what was sent of a report
  front_of : (outcome : Outcome) (told : Result Outcome Stop) → TellsOutcome outcome report_out told → SentFront report_out (report outcome.faults)
  front_of outcome (Ok told) (same, sent) =
      record { front = report outcome.faults; rest = []; parts = sym (append-nil (report outcome.faults)); appended = sent.0 }
  front_of outcome (Err stop.Memory) t = record { front = t.front; rest = t.rest; parts = t.parts; appended = t.sent.0 }
  front_of outcome (Err stop.Write) t = record { front = t.front; rest = t.rest; parts = t.parts; appended = t.appended }
  front_of outcome (Err other) t = absurd t

  -- the report failed, or it didn't
  told_or_rose : (outcome : Outcome) (told : Result Outcome Stop) → TellsOutcome outcome report_out told → IsSound report_out ⊎ Rises report_out
  told_or_rose outcome (Ok told) (same, sent) = inl sent.1
  told_or_rose outcome (Err stop.Memory) t = inl t.sent.1
  told_or_rose outcome (Err stop.Write) t = inr (rose report_out.failures report_out.failures report_out.failed refl t.failed)
  told_or_rose outcome (Err other) t = absurd t

  whole_group : (outcome : Outcome) (told : Result Outcome Stop) → Converts remaining order m plan olds news out (Ok outcome)
      → TellsOutcome outcome report_out told → WroteGroup remaining order described m olds news after report_out
  whole_group outcome told h t = record {
    plan = plan;
    planned = planned;
    many = many;
    events = h.events;
    read = h.read;
    tables = h.tables;
    annotated = h.annotated;
    added = added_kept (GraphOf m plan h.tables) [] m h.gives.1;
    reported = inr (record { faults = outcome.faults; violations = h.violations; sent = front_of outcome told t });
  }

  -- a flush that fails
  rises : IsSound out → failed ≡ one_more out.failed → Rises after
  rises sound e = rose out.failures out.failed failed sound e

  not_memory : (reason : Stop) → reason ≢ stop.Memory
      → TablesStop remaining order plan olds news (Leaves m plan out) (λ tables. Added m out (GraphOf m plan tables) []) reason
      → InTexts reason
  not_memory reason apart h = elim h [ inl s ↦ s | inr w ↦ absurd (apart w.0) ]

  kept_stop : (reason : Stop) → failed ≡ out.failed → IsIdle report_out → Converts remaining order m plan olds news out (Err reason)
      → StopsSo remaining order described m olds news after report_out reason
  kept_stop stop.Memory e quiet (why, sound) = elim why [
    | inl s ↦ inr (inl (stops_after stop.Memory s, e ∙ sound, quiet))
    | inr (_, whole) ↦ inr (inr (group whole quiet, e ∙ sound, quiet.1))
  ]
  kept_stop stop.Read e quiet (why, sound) = (stops_after stop.Read (not_memory stop.Read (λ k. cc) why), e ∙ sound, quiet)
  kept_stop stop.Write e quiet (why, fails) =
      inl ((stop.Write, stops_after stop.Write (not_memory stop.Write (λ k. cc) why)), (λ room. e ∙ fails room), quiet)
  kept_stop (stop.Rows t row reason) e quiet (why, sound) =
      (stops_after (stop.Rows t row reason) (not_memory (stop.Rows t row reason) (λ k. cc) why), e ∙ sound, quiet)
  kept_stop (stop.Table t row reason) e quiet (why, sound) =
      (stops_after (stop.Table t row reason) (not_memory (stop.Table t row reason) (λ k. cc) why), e ∙ sound, quiet)
  kept_stop other e quiet (why, _) = let (_, _, (because, _)) = not_memory other (λ k. cc) why in absurd because

  stop_sound : (reason : Stop) → reason ≢ stop.Write → EndsBy (IsSound out) (Rises out) reason → IsSound out
  stop_sound stop.Write ne h = absurd (ne refl)
  stop_sound other ne h = h

  -- a result that is a stop
  abbrev StopsWith : Result Outcome Stop → Type 0
  StopsWith (Ok outcome) = Unit {0}
  StopsWith (Err reason) = StopsSo remaining order described m olds news after report_out reason

  unflushed : (reason : Stop) → Converts remaining order m plan olds news out (Err reason) → IsIdle report_out → Rises after
      → WriteFails remaining order described m olds news after report_out
  unflushed reason h quiet fails = elim h.0 [
    | inl s ↦ inl ((reason, stops_after reason s), fails, quiet)
    | inr w ↦ inr (group w.1 quiet, inl (fails, inl quiet.1))
  ]

  after_stop : (reason : Stop) (result : Result Outcome Stop) → reason ≢ stop.Write → Converts remaining order m plan olds news out (Err reason)
      → IsIdle report_out → IsFlushed (Err reason) result out.failed failed → StopsWith result
  after_stop reason result apart h quiet (inl (e, n)) = subst StopsWith (sym e) (kept_stop reason n quiet h)
  after_stop reason result apart h quiet (inr (e, n)) = subst StopsWith (sym e) (unflushed reason h quiet (rises (stop_sound reason apart h.1) n))

  after_report : (outcome : Outcome) (told result : Result Outcome Stop) → Converts remaining order m plan olds news out (Ok outcome) → IsSound out
      → TellsOutcome outcome report_out told → IsFlushed told result out.failed failed → StopsWith result
  after_report outcome (Ok told) result h sound t (inl (e, n)) = subst StopsWith (sym e) tt
  after_report outcome (Err stop.Memory) result h sound t (inl (e, n)) =
      subst StopsWith (sym e) (inr (inr (whole_group outcome (Err stop.Memory) h t, n ∙ sound, t.sent.1)))
  after_report outcome (Err stop.Write) result h sound t (inl (e, n)) =
      let failed = rose report_out.failures report_out.failures report_out.failed refl t.failed in
      subst StopsWith (sym e) (inr (whole_group outcome (Err stop.Write) h t, inr (n ∙ sound, failed)))
  after_report outcome (Err other) result h sound t (inl (e, n)) = absurd t
  after_report outcome told result h sound t (inr (e, n)) =
      subst StopsWith (sym e) (inr (whole_group outcome told h t, inl (rises sound n, told_or_rose outcome told t)))

  pub stops : (ran told result : Result Outcome Stop) → ran ≢ Err stop.Write → Converts remaining order m plan olds news out ran → Reports ran report_out told
      → IsFlushed told result out.failed failed → StopsWith result
  stops (Ok outcome) told result apart h t f = after_report outcome told result h (wrote_soundly m out plan h.tables h.gives.0) t f
  stops (Err reason) told result apart h t f = after_stop reason result (λ e. apart (ap Err e)) h t.1 (subst (λ z. IsFlushed z result out.failed failed) t.0 f)

  succeeded : (outcome : Outcome) → Converts remaining order m plan olds news out (Ok outcome) → failed ≡ out.failed → Sends report_out (report outcome.faults)
      → Succeeds remaining order described m olds news after report_out outcome
  succeeded outcome h e s = record {
    plan = plan;
    planned = planned;
    many = many;
    events = h.events;
    read = h.read;
    tables = h.tables;
    annotated = h.annotated;
    wrote = wrote_kept m out holds failed plan h.tables keeps e h.gives.0;
    violations = h.violations;
    reported = s;
  }

  reported : (outcome first : Outcome) (told result : Result Outcome Stop) → result ≡ Ok outcome → Converts remaining order m plan olds news out (Ok first)
      → TellsOutcome first report_out told
      → IsFlushed told result out.failed failed → Succeeds remaining order described m olds news after report_out outcome
  reported outcome first told result r h t f =
      let k = told_ok outcome first report_out told result out.failed failed r t f in
      subst (λ z. Succeeds remaining order described m olds news after report_out z) k.same (succeeded first h k.steady k.sent)

  pub succeeds : (ran told result : Result Outcome Stop) (outcome : Outcome) → result ≡ Ok outcome → Converts remaining order m plan olds news out ran
      → Reports ran report_out told
      → IsFlushed told result out.failed failed → Succeeds remaining order described m olds news after report_out outcome
  succeeds (Ok first) told result outcome r h t f = reported outcome first told result r h t f
  succeeds (Err reason) told result outcome r h t f = absurd (no_stop reason outcome told result out.failed failed t.0 r f)

  -- the whole graph was written, and reported
  pub ends_whole : (ran told result : Result Outcome Stop) (outcome : Outcome) → result ≡ Ok outcome → Converts remaining order m plan olds news out ran
      → Reports ran report_out told → IsFlushed told result out.failed failed
      → WroteGroup remaining order described m olds news after report_out × IsSound after × IsSound report_out
  ends_whole (Ok first) told result outcome r h t f =
      let k = told_ok outcome first report_out told result out.failed failed r t f in
      (whole_group first told h t, k.steady ∙ wrote_soundly m out plan h.tables h.gives.0, k.sent.1)
  ends_whole (Err reason) told result outcome r h t f = absurd (no_stop reason outcome told result out.failed failed t.0 r f)

  pub stops_with : (ran told result : Result Outcome Stop) (reason : Stop) → ran ≢ Err stop.Write → result ≡ Err reason
      → Converts remaining order m plan olds news out ran
      → Reports ran report_out told → IsFlushed told result out.failed failed
      → StopsSo remaining order described m olds news after report_out reason
  stops_with ran told result reason apart r h t f = subst StopsWith r (stops ran told result apart h t f)

-- a failed write in the tables, after which nothing was sent
pub write_stops : {R : Type 0} (remaining : R → Option (List ℕ)) (order : ℕ → List Event → Type 0) (described : Document) (m : Mode)
    (olds news : List (Counted R)) (plan : Plan) → IsPlanned described plan → length olds ≡ length plan.tables → (out report_out : Stream)
    → IsIdle report_out → Converts remaining order m plan olds news out (Err stop.Write)
    → StopsSo remaining order described m olds news out report_out stop.Write
write_stops remaining order described m olds news plan planned many out report_out quiet h =
    kept_stop remaining order described m olds news plan planned many out out.holds out.failed (Keeps-refl out.holds) report_out stop.Write refl quiet h

-- the report was flushed
pub report_kept : {R : Type 0} (remaining : R → Option (List ℕ)) (order : ℕ → List Event → Type 0) (described : Document) (m : Mode) (olds news : List
    (Counted R))
    (out report_out : Stream) (outcome : Outcome) (holds : Option (List ℕ)) (failed : ℕ)
    → Keeps report_out.holds holds → failed ≡ report_out.failed → Succeeds remaining order described m olds news out report_out outcome
    → Succeeds remaining order described m olds news out (flushed report_out holds failed) outcome
report_kept remaining order described m olds news out report_out outcome holds failed keeps e h = record {
  plan = h.plan;
  planned = h.planned;
  many = h.many;
  events = h.events;
  read = h.read;
  tables = h.tables;
  annotated = h.annotated;
  wrote = h.wrote;
  violations = h.violations;
  reported = sends_kept report_out holds failed (report outcome.faults) keeps e h.reported;
}

-- what was reported stays so after a flush
reported_kept : (plan : Plan) (tables : List Table) (s : Stream) (holds : Option (List ℕ)) (failed : ℕ) → Keeps s.holds holds
    → Keeps s.held s.holds ⊎ ReportedFront plan tables s → Keeps s.held holds ⊎ ReportedFront plan tables (flushed s holds failed)
reported_kept plan tables s holds failed keeps (inl k) = inl (Keeps-trans s.held s.holds holds k keeps)
reported_kept plan tables s holds failed keeps (inr k) =
    let f = k.sent in
    inr (record {
      faults = k.faults;
      violations = k.violations;
      sent = record { front = f.front; rest = f.rest; parts = f.parts; appended = appends_kept s.held s.holds holds f.front f.appended keeps };
    })

-- the flush of the report failed after the whole graph
pub report_unsent : {R : Type 0} (remaining : R → Option (List ℕ)) (order : ℕ → List Event → Type 0) (described : Document) (m : Mode)
    (olds news : List (Counted R)) (out report_out : Stream)
    (holds : Option (List ℕ)) (failed : ℕ) (reason : Stop) → Keeps report_out.holds holds → reason ≡ stop.Write → failed ≡ one_more report_out.failed
    → WroteGroup remaining order described m olds news out report_out × IsSound out × IsSound report_out
    → StopsSo remaining order described m olds news out (flushed report_out holds failed) reason
report_unsent remaining order described m olds news out report_out holds failed reason keeps is more (group, whole, sound) =
    let kept : WroteGroup remaining order described m olds news out (flushed report_out holds failed) = record {
      plan = group.plan;
      planned = group.planned;
      many = group.many;
      events = group.events;
      read = group.read;
      tables = group.tables;
      annotated = group.annotated;
      added = group.added;
      reported = reported_kept group.plan group.tables report_out holds failed keeps group.reported;
    } in
    rw is (inr (kept, inr (whole, rose report_out.failures report_out.failed failed sound more)))
