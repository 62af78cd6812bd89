-- Sessions over the same texts end the same.
use Rattle.std.proofs.Common.{◌≡◌, ◌+◌, List, ◌++◌, sym, ap, subst}
use Rattle.std.specs.List.Sorted.{IsPermutation}
use Rattle.std.proofs.lemmas.List.Sorted.{IsPermutation-append_right, IsPermutation-trans}
use Rattle.csvw_fault.specs.declared.fault.Fault.{Fault}
use Rattle.csvw_columns.specs.declared.plan.Plan.{Plan}
use Rattle.csvw_triples_core.specs.declared.mode.Mode.{Mode}
use Rattle.csvw_triples_core.specs.declared.term.Triple.{Triple}
use Rattle.csvw_report.specs.ReportLaws.{SortsToOne}
use Rattle.csvw_report.specs.declared.outcome.Outcome.{Outcome}
use Rattle.csvw_keys.specs.KeyRules.{key_faults, rules_of}
use Rattle.csvw_session.specs.Events.{Event}
use Rattle.csvw_session.specs.Faults.{all_faults}
use Rattle.csvw_session.specs.Finishing.{HasOutcome}
use Rattle.csvw_session.specs.Sessions.{TookGraph}
use Rattle.csvw_session.specs.declared.session.Session.{Session}
use Rattle.csvw_group_laws.specs.Annotated.{Table, AreAnnotated}
use Rattle.csvw_group_laws.specs.AnyOrder.{HaveSameTexts, TookTheSame, EndTheSame}
use Rattle.csvw_group_laws.specs.Finished.{EndsAnnotated}
use Rattle.csvw_group_laws.specs.Graph.{GraphOf}
use Rattle.csvw_group_laws.specs.AtEnd.{Annotates, texts_of}
use Rattle.csvw_group_laws.specs.OneTable.{HaveOneAnnotation}
use Rattle.csvw_group_laws.specs.Violations.{AreViolations, rows_of, tables_violations}

-- faults that are listed, and then those of keys in another order
with_keys : (given violated keys told listed : List Fault) → given ≡ violated → IsPermutation keys told → IsPermutation (given ++ told) listed
    → IsPermutation (violated ++ keys) listed
with_keys given violated keys told listed same order all =
    IsPermutation-trans (violated ++ keys) (violated ++ told) listed (IsPermutation-append_right violated keys told order)
    (subst (λ fs. IsPermutation (fs ++ told) listed) same all)

-- the outcome of a session lists the violations of its tables
pub ends_annotated : {S : Type 0} (gains : S → List Triple → S → Type 0) (sink : S) (events : List Event) (s : Session S) (outcome : Outcome)
    → HasOutcome s outcome → Annotates gains sink events s → EndsAnnotated gains sink events s outcome
ends_annotated gains sink events s outcome h a = record {
  tables = a.tables;
  annotated = a.annotated;
  took = a.took;
  violations = record {
    same = with_keys (s.plan.warnings ++ all_faults s.tables.items) (s.plan.warnings ++ tables_violations s.plan.tables a.tables)
        (key_faults (rules_of s.plan) (rows_of a.tables)) h.key_faults outcome.faults (ap (λ (fs : List Fault). s.plan.warnings ++ fs) a.faults)
        (h.told (rules_of s.plan) (rows_of a.tables) a.keys).same h.faults;
    sorted = h.sorted;
  };
}

-- sinks that took the same graph
took_the_same : {S : Type 0} (gains : S → List Triple → S → Type 0) (sink now other later : S) (Graph : Triple → Type 0)
    → TookGraph gains sink now Graph → TookGraph gains other later Graph → TookTheSame gains sink now other later
took_the_same gains sink now other later Graph h g = record {
  taken = h.taken;
  gained = h.gained;
  also = g.taken;
  gained_too = g.gained;
  same = λ x. (λ inside. g.whole x (h.within x inside), λ inside. h.whole x (g.within x inside));
}

module _ {S : Type 0} (gains : S → List Triple → S → Type 0) (one : HaveOneAnnotation) (sorts : SortsToOne) (sink other : S) (events others : List Event)
    (s r : Session S) (outcome its : Outcome) (h : EndsAnnotated gains sink events s outcome) (g : EndsAnnotated gains other others r its)
    (plan : r.plan ≡ s.plan) (mode : r.mode ≡ s.mode) (texts : HaveSameTexts events others) where
  same_tables : g.tables ≡ h.tables
  same_tables =
      sym (one s.plan.tables (texts_of events) (texts_of others) h.tables g.tables s.ready (λ i. texts (i + 1)) h.annotated
      (subst (λ (p : Plan). AreAnnotated p.tables (texts_of others) g.tables) plan g.annotated))

  its_violations : AreViolations s.plan h.tables its.faults
  its_violations =
      subst (λ (p : Plan). AreViolations p h.tables its.faults) plan (subst (λ (ts : List Table). AreViolations r.plan ts its.faults) same_tables g.violations)

  its_graph : TookGraph gains other r.sink (GraphOf s.mode s.plan h.tables)
  its_graph =
      subst (λ (m : Mode). TookGraph gains other r.sink (GraphOf m s.plan h.tables)) mode
      (subst (λ (p : Plan). TookGraph gains other r.sink (GraphOf r.mode p h.tables)) plan
      (subst (λ (ts : List Table). TookGraph gains other r.sink (GraphOf r.mode r.plan ts)) same_tables g.took))

  pub end_the_same : EndTheSame gains sink other s r outcome its
  end_the_same = record {
    faults = sorts _ outcome.faults its.faults h.violations.same h.violations.sorted its_violations.same its_violations.sorted;
    graphs = took_the_same gains sink s.sink other r.sink (GraphOf s.mode s.plan h.tables) h.took its_graph;
  }
