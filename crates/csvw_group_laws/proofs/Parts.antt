-- A session took all rows of its texts so far.
use Rattle.std.proofs.Common.{◌≡◌, ◌↔◌, ◌⊎◌, ◌<◌, ◌≤◌, ◌+◌, ℕ, Bool, true, false, List, [], ◌∷◌, ◌++◌, chars, refl, sym, ap, ◌∙◌, subst, arith, inl}
use Rattle.std.proofs.Common.{inr, length, Contains, Option, Some, None}
use Rattle.std.specs.Prelude.{slice_get}
use Rattle.std.specs.Str.Lossy.{utf8_valid_len}
use Rattle.std.proofs.Math.Seq.{take-nil}
use Rattle.std.proofs.lemmas.Option.{slice_get_cases, slice_get_within}
use Rattle.std.proofs.lemmas.Str.{chars-nil}
use Rattle.csvw_records.specs.declared.dialect.Dialect.{Dialect}
use Rattle.csvw_records.specs.Files.{Row as FileRow, AreRows, content, without_mark}
use Rattle.csvw_records.specs.Grammar.{terminator_len}
use Rattle.csvw_rows.specs.GivenLaws.{NothingGiven}
use Rattle.csvw_records.specs.RowValue.{Given}
use Rattle.csvw_rows.specs.RowsState.{HasGiven}
use Rattle.csvw_columns_core.specs.declared.columns.Columns.{Columns}
use Rattle.csvw_columns.specs.declared.plan.TablePlan.{TablePlan}
use Rattle.csvw_annotate.specs.declared.row.Row.{Row}
use Rattle.csvw_triples_core.specs.declared.mode.Mode.{Mode}
use Rattle.csvw_triples_core.specs.declared.mode.Mode.TheVariants as mode
use Rattle.csvw_triples_core.specs.declared.term.Triple.{Triple}
use Rattle.csvw_triples_rows.specs.ModeGraph.{TableGraph}
use Rattle.csvw_triples.specs.Opening.{Opening}
use Rattle.csvw_triples.specs.OpeningTriples.{opening}
use Rattle.csvw_engine_core.specs.Tables.{IsAtRest, TableHolds, max_rows, table_triples, columns_of}
use Rattle.csvw_engine_core.specs.declared.table.Table.{Table as State}
use Rattle.csvw_session.specs.Events.{Event, text_of, ended_in}
use Rattle.csvw_session.specs.Sessions.{RowsGraph, Stands, Told, TookGraph}
use Rattle.csvw_session.specs.declared.session.Session.{Session}
use Rattle.csvw_group_laws.specs.Part.{TablePart, HasAllRows, HaveAllRows, PartGraph, PartRows}
use Rattle.csvw_group_laws.specs.Stopped.{TookAll}
use Rattle.csvw_group_laws.proofs.Annotating.{OpeningIsGraph, RowsAreGraph, took_behind}
use Rattle.csvw_group_laws.proofs.Splitting.{none_in}

-- the columns of a state, if there is one
abbrev pub columns_at : Option State → Option Columns
columns_at None = None
columns_at (Some t) = columns_of t

-- the parts of tables that their states have
abbrev pub part_at : List State → (ℕ → List Row) → ℕ → TablePart
part_at ts rows i = record { columns = columns_at (slice_get ts i); rows = rows i }

-- no text has no rows
pub no_content : content [] ≡ []
no_content = ap (λ cs. without_mark cs) (ap (λ (bs : List ℕ). chars bs) (take-nil (utf8_valid_len [])) ∙ chars-nil)

nothing_behind : (text after : List ℕ) → [] ≡ text ++ after → after ≡ []
nothing_behind [] after e = sym e
nothing_behind (c ∷ cs) after e = cc

no_terminator : (d : Dialect) → terminator_len d [] ≡ 0
no_terminator d = grind arith

are_none : (d : Dialect) (text rest : List ℕ) (others : List FileRow) → text ≡ [] → AreRows d 0 text others rest → length others ≤ 0
are_none d text rest [] e h = omega arith
are_none d text rest (row ∷ rows) e h =
    let none : h.0 ≡ [] = nothing_behind row.text h.0 (sym e ∙ h.1) in
    let long = subst (λ (after : List ℕ). 0 < terminator_len d after) none h.3 in
    let short = no_terminator d in
    absurd (omega (arith, long, short))

nothing : (d : Dialect) (max : ℕ) → HasGiven d max [] false []
nothing d max = record {
  front = [];
  is_front = inr (
    (λ e. cc),
    (
      record { rest = content []; are_rows = refl; limits = (omega arith, λ k row below. absurd (omega (arith, below))) },
      λ others b. are_none d (content []) b.rest others no_content b.are_rows,
    ),
  );
  all = refl;
}

pub all_given : NothingGiven → (plan : TablePlan) (m : Mode) (t : State) (text : List ℕ) (given : List Given) (rows : List Row)
    → TableHolds plan m t text false given rows
    → (text ≡ []) ⊎ IsAtRest plan text false given → HasGiven plan.dialect max_rows text false given
all_given law plan m t text given rows h (inr rest) = rest.all
all_given law plan m t text given rows h (inl e) =
    let none : given ≡ [] = law t.rows plan.dialect max_rows given (rw e at h.reader) in
    subst (λ xs. HasGiven plan.dialect max_rows xs false given) (sym e)
    (subst (λ g. HasGiven plan.dialect max_rows [] false g) (sym none) (nothing plan.dialect max_rows))

pub all_rows : NothingGiven → (plan : TablePlan) (m : Mode) (t : State) (text : List ℕ) (ended : Bool) (rows : List Row) → Told plan m t text ended rows
    → HasAllRows plan text ended (record { columns = columns_of t; rows = rows })
all_rows law plan m t text false rows h =
    let open_table = h.stands in record {
      given = open_table.given;
      faults = t.head.faults;
      table = inl (record { head = open_table.holds.head.known; has = open_table.holds.has });
      all = inl (all_given law plan m t text open_table.given rows open_table.holds open_table.at_rest);
    }
all_rows law plan m t text true rows h =
    let whole = h.stands in record {
      given = whole.given;
      faults = t.head.faults;
      table = inr (refl, whole.columns, whole.columns_are, whole.table);
      all = inl whole.at_rest.all;
    }

-- each place of a list is one of another that is as long
pub at_place : {X Y : Type 0} (xs : List X) (ys : List Y) (i : ℕ) (x : X) → length ys ≡ length xs → slice_get xs i ≡ Some x
    → (y : Y) × (slice_get ys i ≡ Some y)
at_place xs ys i x many e = elim (slice_get_cases ys i).1 [
  | inl k ↦ (k.0, k.2)
  | inr past ↦ let below = slice_get_within xs i x e in let over = past.0 in absurd (omega (arith, many, below, over))
]

-- the triples of rows of a table, whose columns may not be known
pub triples_are_graph : RowsAreGraph → (m : Mode) (t : ℕ) (columns : Option Columns) (rows : List Row) (x : Triple)
    → Contains (table_triples m t columns rows) x ↔ TableGraph m t columns rows x
triples_are_graph law m t (Some columns) rows x = law m t columns rows x
triples_are_graph law mode.Validate t None rows x = (λ c. none_in x c, λ g. absurd g)
triples_are_graph law mode.Minimal t None rows x = (λ c. none_in x c, λ g. absurd g)
triples_are_graph law mode.Standard t None rows x = (λ c. none_in x c, λ g. absurd g)

module _ {S : Type 0} (rows_law : RowsAreGraph) (s : Session S) (rows : ℕ → List Row) where
  into_parts : (x : Triple) → RowsGraph s rows x → PartRows s.mode s.plan.tables (part_at s.tables.items rows) x
  into_parts x (i, plan, state, (planned, stands), given) = (
    i,
    plan,
    planned,
    subst (λ c. TableGraph s.mode plan.number c (rows i) x) (sym (ap columns_at stands))
        ((triples_are_graph rows_law s.mode plan.number (columns_of state) (rows i) x).0 given),
  )

  from_parts : (x : Triple) → PartRows s.mode s.plan.tables (part_at s.tables.items rows) x → RowsGraph s rows x
  from_parts x h =
      let at = at_place s.plan.tables s.tables.items h.0 h.1 s.many h.2 in (
        h.0,
        h.1,
        at.0,
        (h.2, at.1),
        (triples_are_graph rows_law s.mode h.1.number (columns_of at.0) (rows h.0) x).1
            (subst (λ c. TableGraph s.mode h.1.number c (rows h.0) x) (ap columns_at at.1) h.3),
      )

module _ {S : Type 0} (gains : S → List Triple → S → Type 0) (is_open : S → Bool) (failed : S → ℕ)
    (goes_on : (a b c : S) (xs ys : List Triple) → gains a xs b → gains b ys c → gains a (xs ++ ys) c)
    (openings : OpeningIsGraph) (rows_law : RowsAreGraph) (nothing_given : NothingGiven) where
  pub have_all : (start : S) (events : List Event) (s : Session S) (h : Stands gains is_open failed start events s)
      → HaveAllRows s.plan.tables events (part_at s.tables.items h.rows)
  have_all start events s h i plan e =
      let at = at_place s.plan.tables s.tables.items i plan s.many e in
      subst (λ c. HasAllRows plan (text_of events (i + 1)) (ended_in events (i + 1)) (record { columns = c; rows = h.rows i })) (sym (ap columns_at at.1))
      (all_rows nothing_given plan s.mode at.0 (text_of events (i + 1)) (ended_in events (i + 1)) (h.rows i) (h.tables i plan at.0 (e, at.1)))

  pub took_graph : (sink start : S) (events : List Event) (s : Session S) → gains sink (opening s.mode s.plan) start
      → (h : Stands gains is_open failed start events s) → TookGraph gains sink s.sink (PartGraph s.mode s.plan (part_at s.tables.items h.rows))
  took_graph sink start events s opened h =
      took_behind gains goes_on sink start s.sink (opening s.mode s.plan) (Opening s.mode s.plan) (RowsGraph s h.rows)
      (PartRows s.mode s.plan.tables (part_at s.tables.items h.rows)) opened (openings s.mode s.plan)
      (into_parts rows_law s h.rows) (from_parts rows_law s h.rows) h.took

  pub took_all : (sink start : S) (events : List Event) (s : Session S) → gains sink (opening s.mode s.plan) start → Stands gains is_open failed start events s
      → TookAll gains s.mode s.plan events sink s.sink
  took_all sink start events s opened h = record {
    parts = part_at s.tables.items h.rows;
    have = have_all start events s h;
    took = took_graph sink start events s opened h;
  }
