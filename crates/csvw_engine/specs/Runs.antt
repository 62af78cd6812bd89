-- A run over a group of tables: what it writes, and why it stops: `Succeeds`, `StopsSo` (csv2rdf, section 4.2; Model for Tabular
-- Data, sections 6 and 8).
use Rattle.std.specs.Prelude.{◌≡◌, ◌≢◌, ◌⊎◌, ◌<◌, ◌+◌, ◌-◌, ◌^◌, ℕ, List, [], ◌++◌, length, Option, Some, Result, Ok, Err}
use Rattle.std.specs.Io.KnownBytes.{Appends, Keeps}
use Rattle.csvw_streams.specs.declared.counted.Counted.{Counted}
use Rattle.csvw_fault.specs.declared.fault.Fault.{Fault}
use Rattle.csvw_streams.specs.Streams.{Stream, Sends, IsIdle}
use Rattle.csvw_description.specs.declared.description.Description.{Description}
use Rattle.csvw_columns.specs.PlanOf.{plan_of}
use Rattle.csvw_columns.specs.Ready.{AreReady}
use Rattle.csvw_columns.specs.declared.plan.Plan.{Plan}
use Rattle.csvw_triples_core.specs.declared.mode.Mode.{Mode}
use Rattle.csvw_triples_core.specs.declared.mode.Mode.TheVariants as mode
use Rattle.csvw_triples_core.specs.declared.term.Triple.{Triple}
use Rattle.csvw_ntriples.specs.declared.term.NtTriple.{NtTriple}
use Rattle.csvw_ntriples.specs.Grammar.{Denotes}
use Rattle.csvw_ntriples.specs.SameUpTo.{SameUpTo}
use Rattle.csvw_meta.specs.Document.{Document, IsFault, group_in}
use Rattle.csvw_report.specs.Report.{report}
use Rattle.csvw_report.specs.declared.outcome.Outcome.{Outcome}
use Rattle.csvw_session.specs.Events.{Event}
use Rattle.csvw_engine_core.specs.declared.stop.Stop.{Stop}
use Rattle.csvw_engine_core.specs.declared.stop.Stop.TheVariants as stop
use Rattle.csvw_group_laws.specs.Annotated.{Table, AreAnnotated}
use Rattle.csvw_group_laws.specs.AtEnd.{texts_of}
use Rattle.csvw_group_laws.specs.Graph.{GraphOf}
use Rattle.csvw_group_laws.specs.Violations.{AreViolations}
use Rattle.csvw_engine.specs.Stopped.{Added, Leaves}
use Rattle.csvw_engine.specs.Texts.{GaveEvents, IsReason, ReadToEnds}

-- a count of failures rose by one, if it had room
abbrev pub Rises : Stream → Type 0
Rises s = s.failures < 2 ^ 64 - 1 → s.failed ≡ s.failures + 1

-- no write failed
abbrev pub IsSound : Stream → Type 0
IsSound s = s.failed ≡ s.failures

-- what is described is the group of this plan, whose tables can be read
pub record IsPlanned (described : Document) (plan : Plan) : Type 0 where
  pub description : Description
  pub is_described : group_in described ≡ Some description
  pub planned : plan ≡ plan_of description
  pub ready : AreReady plan.tables

-- the bytes that the writer gained denote the graph, with a name of its own for each blank node
pub record WroteGraph (out : Stream) (Graph : Triple → Type 0) : Type 0 where
  pub added : List ℕ
  pub sent : Sends out added
  pub triples : List NtTriple
  pub denotes : Denotes added triples
  pub same : SameUpTo Graph triples

-- what is written, by the mode: nothing, or the graph of the group
abbrev pub Wrote : Mode → Stream → Plan → List Table → Type 0
Wrote mode.Validate out plan tables = Sends out []
Wrote mode.Minimal out plan tables = WroteGraph out (GraphOf mode.Minimal plan tables)
Wrote mode.Standard out plan tables = WroteGraph out (GraphOf mode.Standard plan tables)

-- The texts of the readers are the annotated tables of the group that is described. Their graph was written. Their violations are the faults
-- of the outcome and were reported. Nothing failed.
pub record Succeeds {R : Type 0} (remaining : R → Option (List ℕ)) (order : ℕ → List Event → Type 0) (described : Document) (mode : Mode)
    (olds news : List (Counted R)) (out report_out : Stream) (outcome : Outcome) : Type 0 where
  pub plan : Plan
  pub planned : IsPlanned described plan
  pub many : length olds ≡ length plan.tables
  pub events : List Event
  pub read : ReadToEnds remaining order olds news events
  pub tables : List Table
  pub annotated : AreAnnotated plan.tables (texts_of events) tables
  pub wrote : Wrote mode out plan tables
  pub violations : AreViolations plan tables outcome.faults
  pub reported : Sends report_out (report outcome.faults)

-- the texts so far of the tables of the group
pub record ReadsGroup {R : Type 0} (remaining : R → Option (List ℕ)) (order : ℕ → List Event → Type 0) (described : Document)
    (olds news : List (Counted R)) (plan : Plan) (events : List Event) : Type 0 where
  pub planned : IsPlanned described plan
  pub many : length olds ≡ length plan.tables
  pub gave : GaveEvents remaining order (length olds) olds news events

-- the texts so far, and this holds of them
abbrev pub SoFar : {R : Type 0} → (R → Option (List ℕ)) → (ℕ → List Event → Type 0) → Document → List (Counted R) → List (Counted R)
    → (Plan → List Event → Type 0) → Type 0
SoFar remaining order described olds news P =
    (plan : Plan) × (events : List Event) × ReadsGroup remaining order described olds news plan events × P plan events

-- after the texts so far there is this reason to stop, and the stop leaves this much of their graph written
abbrev pub StopsAfter : {R : Type 0} → (R → Option (List ℕ)) → (ℕ → List Event → Type 0) → Document → Mode → List (Counted R) → List (Counted R)
    → Stream → Stop → Type 0
StopsAfter remaining order described mode olds news out reason =
    SoFar remaining order described olds news (λ plan events. IsReason plan olds news reason events × Leaves mode plan out reason events)

-- a front of a text was sent: nothing, some of it or all of it
pub record SentFront (s : Stream) (text : List ℕ) : Type 0 where
  pub front : List ℕ
  pub rest : List ℕ
  pub parts : text ≡ front ++ rest
  pub appended : Appends s.held s.holds front

-- a front of the report of these tables' violations was sent
pub record ReportedFront (plan : Plan) (tables : List Table) (report_out : Stream) : Type 0 where
  pub faults : List Fault
  pub violations : AreViolations plan tables faults
  pub sent : SentFront report_out (report faults)

-- The texts of the readers are the annotated tables of the group that is described, and their whole graph was written. Nothing of the report
-- was written, or a front of it.
pub record WroteGroup {R : Type 0} (remaining : R → Option (List ℕ)) (order : ℕ → List Event → Type 0) (described : Document) (mode : Mode)
    (olds news : List (Counted R)) (out report_out : Stream) : Type 0 where
  pub plan : Plan
  pub planned : IsPlanned described plan
  pub many : length olds ≡ length plan.tables
  pub events : List Event
  pub read : ReadToEnds remaining order olds news events
  pub tables : List Table
  pub annotated : AreAnnotated plan.tables (texts_of events) tables
  pub added : Added mode out (GraphOf mode plan tables) []
  pub reported : Keeps report_out.held report_out.holds ⊎ ReportedFront plan tables report_out

-- nothing was read, written, flushed or reported
abbrev pub IsUntouched : {R : Type 0} → List (Counted R) → List (Counted R) → Stream → Stream → Type 0
IsUntouched olds news out report_out = (news ≡ olds) × IsIdle out × IsIdle report_out

-- the number of readers is not the number of tables
pub record Differ {R : Type 0} (described : Document) (olds : List (Counted R)) : Type 0 where
  pub plan : Plan
  pub planned : IsPlanned described plan
  pub apart : length olds ≢ length plan.tables

-- Memory ran out before the tables, in one of them, or after the whole graph. No write failed.
abbrev pub LacksMemory : {R : Type 0} → (R → Option (List ℕ)) → (ℕ → List Event → Type 0) → Document → Mode → List (Counted R) → List (Counted R)
    → Stream → Stream → Type 0
LacksMemory remaining order described mode olds news out report_out =
    IsUntouched olds news out report_out
    ⊎ ((StopsAfter remaining order described mode olds news out stop.Memory × IsSound out × IsIdle report_out)
    ⊎ (WroteGroup remaining order described mode olds news out report_out × IsSound out × IsSound report_out))

-- `out` failed, or the report did, or both
abbrev pub OneRises : Stream → Stream → Type 0
OneRises out report_out = (Rises out × (IsSound report_out ⊎ Rises report_out)) ⊎ (IsSound out × Rises report_out)

-- A write failed. Either `out` failed in the tables, or in the flush before this stop was returned. Or a flush or the report failed after the
-- whole graph.
abbrev pub WriteFails : {R : Type 0} → (R → Option (List ℕ)) → (ℕ → List Event → Type 0) → Document → Mode → List (Counted R) → List (Counted R)
    → Stream → Stream → Type 0
WriteFails remaining order described mode olds news out report_out =
    (((reason : Stop) × StopsAfter remaining order described mode olds news out reason) × Rises out × IsIdle report_out)
    ⊎ (WroteGroup remaining order described mode olds news out report_out × OneRises out report_out)

-- a stop in the tables, after which `out` was flushed
abbrev pub StopsFlushed : {R : Type 0} → (R → Option (List ℕ)) → (ℕ → List Event → Type 0) → Document → Mode → List (Counted R) → List (Counted R)
    → Stream → Stream → Stop → Type 0
StopsFlushed remaining order described mode olds news out report_out reason =
    StopsAfter remaining order described mode olds news out reason × IsSound out × IsIdle report_out

-- the reason for which a run stops, and what it wrote before it
abbrev pub StopsSo : {R : Type 0} → (R → Option (List ℕ)) → (ℕ → List Event → Type 0) → Document → Mode → List (Counted R) → List (Counted R)
    → Stream → Stream → Stop → Type 0
StopsSo remaining order described mode olds news out report_out stop.Memory = LacksMemory remaining order described mode olds news out report_out
StopsSo remaining order described mode olds news out report_out stop.Write = WriteFails remaining order described mode olds news out report_out
StopsSo remaining order described mode olds news out report_out stop.Read =
    StopsFlushed remaining order described mode olds news out report_out stop.Read
StopsSo remaining order described mode olds news out report_out (stop.Rows t row reason) =
    StopsFlushed remaining order described mode olds news out report_out (stop.Rows t row reason)
StopsSo remaining order described mode olds news out report_out (stop.Table t row reason) =
    StopsFlushed remaining order described mode olds news out report_out (stop.Table t row reason)
StopsSo remaining order described mode olds news out report_out (stop.Meta fault) = IsFault described fault × IsUntouched olds news out report_out
StopsSo remaining order described mode olds news out report_out stop.TableCount = Differ described olds × IsUntouched olds news out report_out
StopsSo remaining order described mode olds news out report_out other = ⊥

-- what a run over the document and the readers leaves, by its result; `order` is the order in which it reads the tables
abbrev pub Runs : {R : Type 0} → (R → Option (List ℕ)) → (ℕ → List Event → Type 0) → Document → Mode → List (Counted R) → List (Counted R)
    → Stream → Stream → Result Outcome Stop → Type 0
Runs remaining order described mode olds news out report_out (Ok outcome) = Succeeds remaining order described mode olds news out report_out outcome
Runs remaining order described mode olds news out report_out (Err reason) = StopsSo remaining order described mode olds news out report_out reason
