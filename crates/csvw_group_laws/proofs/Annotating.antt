-- The texts of a session whose tables were all ended are annotated tables.
use Rattle.std.proofs.Common.{◌≡◌, ◌↔◌, ◌⊎◌, ◌<◌, ◌≤◌, ℕ, zero, suc, ◌+◌, Bool, true, List, [], ◌++◌, length, refl, sym, ap, ◌∙◌, subst, arith}
use Rattle.std.proofs.Common.{get_or, None, inl, inr, Contains, Some, flat_map}
use Rattle.std.specs.Prelude.{slice_get}
use Rattle.std.specs.List.{list_all}
use Rattle.std.proofs.lemmas.List.Elements.{Contains-append_left, Contains-append_right, Contains-append_cases}
use Rattle.csvw_columns_core.specs.declared.columns.Columns.{Columns}
use Rattle.csvw_columns.specs.declared.plan.Plan.{Plan}
use Rattle.csvw_columns.specs.declared.plan.TablePlan.{TablePlan}
use Rattle.csvw_annotate.specs.declared.row.Row.{Row}
use Rattle.csvw_triples_core.specs.declared.mode.Mode.{Mode}
use Rattle.csvw_triples_core.specs.declared.term.Triple.{Triple}
use Rattle.csvw_triples_rows.specs.ModeGraph.{TableGraph}
use Rattle.csvw_triples_rows.specs.ModeTriples.{row_triples}
use Rattle.csvw_triples.specs.Opening.{Opening}
use Rattle.csvw_triples.specs.OpeningTriples.{opening}
use Rattle.csvw_engine_core.specs.Tables.{table_triples, columns_of, is_ended}
use Rattle.csvw_engine_core.specs.declared.table.Table.{Table as State}
use Rattle.csvw_session.specs.Events.{Event, ended_in}
use Rattle.std.proofs.lemmas.Option.{slice_get_cases}
use Rattle.csvw_keys.specs.Books.{KeepsKeys}
use Rattle.csvw_keys.specs.KeyRules.{rules_of}
use Rattle.csvw_group_laws.specs.Violations.{rows_at, rows_of}
use Rattle.csvw_session.specs.Sessions.{by_number, RowsGraph, TookGraph, Stands}
use Rattle.csvw_session.specs.declared.session.Session.{Session}
use Rattle.csvw_group_laws.specs.Annotated.{Table}
use Rattle.csvw_group_laws.specs.Graph.{RowsOf}
use Rattle.csvw_group_laws.specs.AtEnd.{Annotates, texts_of}
use Rattle.csvw_group_laws.proofs.Ending.{ends_as}
use Rattle.csvw_group_laws.proofs.Listing.{AreEnded, EachEnds, listed, as_many, passes_at, state_at, table_at, faults_are}

-- what the triples of a group are
abbrev pub OpeningIsGraph : Type 0
OpeningIsGraph = (m : Mode) (plan : Plan) (x : Triple) → Contains (opening m plan) x ↔ Opening m plan x

-- what the triples of rows are
abbrev pub RowsAreGraph : Type 0
RowsAreGraph = (m : Mode) (t : ℕ) (columns : Columns) (rows : List Row) (x : Triple)
    → Contains (flat_map (row_triples m t columns) rows) x ↔ TableGraph m t (Some columns) rows x

-- the triples of the rows of all tables of plans and states
abbrev TableIn : List TablePlan → List State → Mode → (ℕ → List Row) → Triple → Type 0
TableIn plans ts m rows x = (i : ℕ) × (plan : TablePlan) × (t : State) × ((slice_get plans i ≡ Some plan) × (slice_get ts i ≡ Some t))
    × Contains (table_triples m plan.number (columns_of t) (rows i)) x

module _ (law : RowsAreGraph) (plans : List TablePlan) (ts : List State) (texts : ℕ → List ℕ) (rows : ℕ → List Row) (tables : List Table)
    (are : AreEnded plans ts texts rows tables) where
  into_graph : (m : Mode) (x : Triple) → TableIn plans ts m rows x → RowsOf m plans tables x
  into_graph m x (i, plan, state, (planned, stands), given) =
      let k = table_at plans ts texts rows tables are i plan state planned stands in
      let c = subst (λ z. Contains (table_triples m plan.number z (rows i)) x) k.ends_as.columns given in
      let own = subst (λ rs. TableGraph m plan.number (Some k.table.columns) rs x) (sym k.ends_as.rows_are)
      ((law m plan.number k.table.columns (rows i) x).0 c) in
      (i, plan, k.table, planned, k.is_at, own)

  from_graph : (m : Mode) (x : Triple) → RowsOf m plans tables x → TableIn plans ts m rows x
  from_graph m x h =
      let k = state_at plans ts texts rows tables are h.0 h.1 h.2 h.3 h.4 in
      let own = subst (λ rs. TableGraph m h.1.number (Some h.2.columns) rs x) k.ends_as.rows_are h.5 in
      let c = (law m h.1.number h.2.columns (rows h.0) x).1 own in
      (h.0, h.1, k.t, (h.3, k.is_at), subst (λ z. Contains (table_triples m h.1.number z (rows h.0)) x) (sym k.ends_as.columns) c)

-- the rows of a place, and of the table there
rows_here : (plans : List TablePlan) (ts : List State) (texts : ℕ → List ℕ) (rows : ℕ → List Row) (tables : List Table)
    → AreEnded plans ts texts rows tables → ((i : ℕ) → length plans ≤ i → rows i ≡ []) → (i : ℕ)
    → ((table : Table) × (i < length tables) × (slice_get tables i ≡ Some table) × (get_or tables i table ≡ table)) ⊎
    ((length tables ≤ i) × (slice_get tables i ≡ None))
    → rows i ≡ rows_at (slice_get tables i)
rows_here plans ts texts rows tables are beyond i (inl at) =
    ended_here (slice_get_cases plans i).1
  where
    ended_here : ((p : TablePlan) × (i < length plans) × (slice_get plans i ≡ Some p) × (get_or plans i p ≡ p)) ⊎
        ((length plans ≤ i) × (slice_get plans i ≡ None))
        → rows i ≡ rows_at (slice_get tables i)
    ended_here (inl p) = sym (state_at plans ts texts rows tables are i p.0 at.0 p.2 at.2).ends_as.rows_are ∙ sym (ap rows_at at.2)
    ended_here (inr past) =
        let many : length tables ≡ length plans = as_many plans ts texts rows tables are in
        let b = at.1 in let over = past.0 in absurd (omega (arith, b, many, over))
rows_here plans ts texts rows tables are beyond i (inr past) =
    let many : length tables ≡ length plans = as_many plans ts texts rows tables are in
    let over = past.0 in
    beyond i (omega (arith, many, over)) ∙ sym (ap rows_at past.1)

rows_are : (plans : List TablePlan) (ts : List State) (texts : ℕ → List ℕ) (rows : ℕ → List Row) (tables : List Table)
    → AreEnded plans ts texts rows tables → ((i : ℕ) → length plans ≤ i → rows i ≡ []) → (n : ℕ) → by_number rows n ≡ rows_of tables n
rows_are plans ts texts rows tables are beyond zero = refl
rows_are plans ts texts rows tables are beyond (suc i) = rows_here plans ts texts rows tables are beyond i (slice_get_cases tables i).1

-- the triples of all rows after others, in other words
pub took_behind : {S : Type 0} (gains : S → List Triple → S → Type 0)
    (goes_on : (a b c : S) (xs ys : List Triple) → gains a xs b → gains b ys c → gains a (xs ++ ys) c)
    → (sink start now : S) (front : List Triple) (O X Y : Triple → Type 0) → gains sink front start → ((x : Triple) → Contains front x ↔ O x)
    → ((x : Triple) → X x → Y x) → ((x : Triple) → Y x → X x) → TookGraph gains start now X → TookGraph gains sink now (λ x. O x ⊎ Y x)
took_behind gains goes_on sink start now front O X Y opened is to from h = record {
  taken = front ++ h.taken;
  gained = goes_on sink start now front h.taken opened h.gained;
  within = λ x c. elim (Contains-append_cases front h.taken x c) [ inl k ↦ inl ((is x).0 k) | inr k ↦ inr (to x (h.within x k)) ];
  whole = λ x y. elim y [ inl o ↦ Contains-append_left front h.taken x ((is x).1 o) | inr k ↦ Contains-append_right front h.taken x (h.whole x (from x k)) ];
}

module _ {S : Type 0} (gains : S → List Triple → S → Type 0) (is_open : S → Bool) (failed : S → ℕ)
    (goes_on : (a b c : S) (xs ys : List Triple) → gains a xs b → gains b ys c → gains a (xs ++ ys) c) (openings : OpeningIsGraph) (law : RowsAreGraph) where
  pub annotates : (sink start : S) (events : List Event) (s : Session S) → gains sink (opening s.mode s.plan) start → Stands gains is_open failed start events s
      → list_all is_ended s.tables.items ≡ true → Annotates gains sink events s
  annotates sink start events s opened h ended =
      let each : EachEnds s.plan.tables s.tables.items (texts_of events) h.rows =
      λ i plan t e f.
      ends_as plan s.mode t (texts_of events i) (ended_in events (i + 1)) (h.rows i) (h.tables i plan t (e, f))
      (passes_at is_ended s.tables.items i t ended f) in
      let all = listed s.plan.tables s.tables.items (texts_of events) h.rows s.many each in
      record {
        tables = all.0;
        annotated = record {
          many = as_many s.plan.tables s.tables.items (texts_of events) h.rows all.0 all.1;
          each = λ i plan table e f. (state_at s.plan.tables s.tables.items (texts_of events) h.rows all.0 all.1 i plan table e f).ends_as.annotated;
        };
        took = took_behind gains goes_on sink start s.sink (opening s.mode s.plan) (Opening s.mode s.plan) (RowsGraph s h.rows)
            (RowsOf s.mode s.plan.tables all.0)
            opened (openings s.mode s.plan)
            (into_graph law s.plan.tables s.tables.items (texts_of events) h.rows all.0 all.1 s.mode)
            (from_graph law s.plan.tables s.tables.items (texts_of events) h.rows all.0 all.1 s.mode) h.took;
        keys = subst (KeepsKeys s.keys (rules_of s.plan))
            (λ k n. rows_are s.plan.tables s.tables.items (texts_of events) h.rows all.0 all.1 h.beyond n k) h.keys;
        faults = faults_are s.plan.tables s.tables.items (texts_of events) h.rows all.0 all.1;
      }
