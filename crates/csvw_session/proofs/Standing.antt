-- How a session changes with an event of one of its tables.
use Rattle.std.proofs.Common.{◌≡◌, ◌≢◌, ◌⊎◌, ◌<◌, ◌≤◌, ◌+◌, ℕ, zero, suc, Bool, true, false, List, [], ◌++◌, refl, sym, ap, ◌∙◌, subst, arith}
use Rattle.std.proofs.Common.{add-one, length, inl, inr, Option, Some, None}
use Rattle.std.specs.Prelude.{slice_get, slice_set, Contains, if◌then◌else◌, nat_eq, flat_map, ◌==◌}
use Rattle.std.proofs.lemmas.Bool.{eq-eqb, eqb-true}
use Rattle.std.proofs.lemmas.Bool.Decides.{eqb_tells}
use Rattle.std.proofs.lemmas.Option.{slice_get_within}
use Rattle.std.proofs.lemmas.List.Elements.{Contains-append_left, Contains-append_right, Contains-append_cases}
use Rattle.std.proofs.lemmas.List.Concat.{flat_map-append}
use Rattle.csvw_columns_core.specs.declared.columns.Columns.{Columns}
use Rattle.csvw_columns.specs.declared.plan.TablePlan.{TablePlan}
use Rattle.csvw_annotate.specs.declared.row.Row.{Row}
use Rattle.csvw_keys.specs.Books.{KeepsKeys}
use Rattle.csvw_keys.specs.KeyRules.{rules_of, table_rules}
use Rattle.csvw_keys.specs.Tables.{with_rows}
use Rattle.csvw_triples_core.specs.Taking.{IsAsReady}
use Rattle.csvw_triples_core.specs.declared.mode.Mode.{Mode}
use Rattle.csvw_triples_core.specs.declared.term.Triple.{Triple}
use Rattle.csvw_triples_rows.specs.ModeTriples.{row_triples}
use Rattle.csvw_engine_core.specs.Faults.{row_faults, table_faults}
use Rattle.csvw_engine_core.specs.Tables.{AddsRows, KeepsColumns, table_triples, columns_of}
use Rattle.csvw_engine_core.specs.declared.table.Table.{Table}
use Rattle.csvw_session.specs.Events.{Event, text_of, ended_in}
use Rattle.csvw_session.specs.Sessions.{by_number, IsTableAt, RowsGraph, Told, Stands}
use Rattle.csvw_session.specs.declared.session.Session.{Session}
use Rattle.csvw_session.specs.declared.state.State.TheVariants as state
use Rattle.csvw_session.proofs.Numbers.{number_at}
use Rattle.csvw_session.proofs.Lists.{set_same, set_other, set_there, set_stays, one_at}

-- rows more of the table at place i
abbrev pub more_rows : (ℕ → List Row) → ℕ → List Row → ℕ → List Row
more_rows rows i more j = if j == i then rows j ++ more else rows j

same_rows : (rows : ℕ → List Row) (i : ℕ) (more : List Row) → more_rows rows i more i ≡ rows i ++ more
same_rows rows i more = elim (eqb_tells i i) [ inl p ↦ rw p.0 refl | inr q ↦ absurd (q.1 refl) ]

other_rows : (rows : ℕ → List Row) (i j : ℕ) (more : List Row) → j ≢ i → more_rows rows i more j ≡ rows j
other_rows rows i j more ne = elim (eqb_tells j i) [ inl p ↦ absurd (ne p.1) | inr q ↦ rw q.0 refl ]

pub no_triples : (mode : Mode) (t : ℕ) (columns : Option Columns) → table_triples mode t columns [] ≡ []
no_triples mode t None = refl
no_triples mode t (Some columns) = refl

pub triples_more : (mode : Mode) (t : ℕ) (columns : Option Columns) (rows more : List Row)
    → table_triples mode t columns (rows ++ more) ≡ table_triples mode t columns rows ++ table_triples mode t columns more
triples_more mode t None rows more = refl
triples_more mode t (Some columns) rows more = flat_map-append (row_triples mode t columns) rows more

pub no_faults : (t : ℕ) (columns : Option Columns) → table_faults t columns [] ≡ []
no_faults t None = refl
no_faults t (Some columns) = refl

pub faults_more : (t : ℕ) (columns : Option Columns) (rows more : List Row)
    → table_faults t columns (rows ++ more) ≡ table_faults t columns rows ++ table_faults t columns more
faults_more t None rows more = refl
faults_more t (Some columns) rows more = flat_map-append (row_faults t columns.columns) rows more

pub same_triples : (mode : Mode) (t : ℕ) (old new : Option Columns) (rows : List Row)
    → ((columns : Columns) → old ≡ Some columns → new ≡ Some columns) → (old ≡ None → rows ≡ [])
    → table_triples mode t new rows ≡ table_triples mode t old rows
same_triples mode t None new rows stay none = ap (table_triples mode t new) (none refl) ∙ no_triples mode t new
same_triples mode t (Some columns) new rows stay none = ap (λ z. table_triples mode t z rows) (stay columns refl)

pub same_faults : (t : ℕ) (old new : Option Columns) (rows : List Row) → ((columns : Columns) → old ≡ Some columns → new ≡ Some columns)
    → (old ≡ None → rows ≡ [])
    → table_faults t new rows ≡ table_faults t old rows
same_faults t None new rows stay none = ap (table_faults t new) (none refl) ∙ no_faults t new
same_faults t (Some columns) new rows stay none = ap (λ z. table_faults t z rows) (stay columns refl)

if_not : (b : Bool) (xs ys : List Row) → (b ≡ true → ⊥) → (if b then xs else ys) ≡ ys
if_not true xs ys h = absurd (h refl)
if_not false xs ys h = refl

-- the rows of the table of a number, with more of the table at place i
more_at : (rows : ℕ → List Row) (i : ℕ) (more : List Row) (j : ℕ) → (j ≡ i) ⊎ (j ≢ i)
    → (if nat_eq (suc i) (suc j) then rows j ++ more else rows j) ≡ more_rows rows i more j
more_at rows i more j (inl e) =
    subst (λ k. (if nat_eq (suc i) (suc k) then rows k ++ more else rows k) ≡ more_rows rows i more k) (sym e)
    (ap (λ b. if b then rows i ++ more else rows i) (eq-eqb (suc i) (suc i) refl) ∙ sym (same_rows rows i more))
more_at rows i more j (inr ne) =
    if_not (nat_eq (suc i) (suc j)) (rows j ++ more) (rows j) (λ t. ne (let e = eqb-true (suc i) (suc j) t in omega (arith, e)))
    ∙ sym (other_rows rows i j more ne)

same_place : (j i : ℕ) → (j ≡ i) ⊎ (j ≢ i)
same_place j i = elim (eqb_tells j i) [ inl p ↦ inl p.1 | inr q ↦ inr q.1 ]

numbered_at : (rows : ℕ → List Row) (i : ℕ) (more : List Row) (n : ℕ) → with_rows (by_number rows) (suc i) more n ≡ by_number (more_rows rows i more) n
numbered_at rows i more zero = if_not (nat_eq (suc i) 0) ([] ++ more) [] (λ t. let e = eqb-true (suc i) 0 t in omega (arith, e))
numbered_at rows i more (suc n) = more_at rows i more n (same_place n i)

module _ {S : Type 0} (gains : S → List Triple → S → Type 0) (is_open : S → Bool) (failed : S → ℕ)
    (goes_on : (a b c : S) (xs ys : List Triple) → gains a xs b → gains b ys c → gains a (xs ++ ys) c)
    (old new : Session S) (i : ℕ) (plan : TablePlan) (t u : Table) (start : S) (past events : List Event)
    (is_at : IsTableAt old i plan t) (below : i < length old.tables.items)
    (plans : new.plan.tables ≡ old.plan.tables) (mode_is : new.mode ≡ old.mode) (tables : new.tables.items ≡ slice_set old.tables.items i u)
    (stands : Stands gains is_open failed start past old)
    (texts : (v : ℕ) → v ≢ i + 1 → text_of events v ≡ text_of past v) (ends : (v : ℕ) → v ≢ i + 1 → ended_in events v ≡ ended_in past v)
    (more : List Row) (told : Told plan old.mode u (text_of events (i + 1)) (ended_in events (i + 1)) (stands.rows i ++ more))
    (kept : AddsRows plan.number more old.keys new.keys)
    (keeps : KeepsColumns t u) (none : columns_of t ≡ None → stands.rows i ≡ []) where
  abbrev rows : ℕ → List Row
  rows = more_rows stands.rows i more

  -- the table at a place
  the_plan : (plan' : TablePlan) → slice_get new.plan.tables i ≡ Some plan' → plan' ≡ plan
  the_plan plan' e = one_at new.plan.tables i plan' plan e (ap (λ (z : List TablePlan). slice_get z i) plans ∙ is_at.0)

  the_table : (u' : Table) → slice_get new.tables.items i ≡ Some u' → u' ≡ u
  the_table u' e = set_same old.tables.items i u u' below (ap (λ (z : List Table). slice_get z i) (sym tables) ∙ e)

  other_at : (j : ℕ) (plan' : TablePlan) (u' : Table) → j ≢ i → IsTableAt new j plan' u' → IsTableAt old j plan' u'
  other_at j plan' u' ne h = (
    ap (λ (z : List TablePlan). slice_get z j) (sym plans) ∙ h.0,
    set_other old.tables.items i j u u' ne (ap (λ (z : List Table). slice_get z j) (sym tables) ∙ h.1),
  )

  new_at : IsTableAt new i plan u
  new_at = (ap (λ (z : List TablePlan). slice_get z i) plans ∙ is_at.0, ap (λ (z : List Table). slice_get z i) tables ∙ set_there old.tables.items i u below)

  still_at : (j : ℕ) (plan' : TablePlan) (u' : Table) → j ≢ i → IsTableAt old j plan' u' → IsTableAt new j plan' u'
  still_at j plan' u' ne h = (
    ap (λ (z : List TablePlan). slice_get z j) plans ∙ h.0,
    ap (λ (z : List Table). slice_get z j) tables ∙ set_stays old.tables.items i j u u' ne h.1,
  )

  -- the numbers of tables at two places differ
  other_number : (j : ℕ) → j ≢ i → j + 1 ≢ i + 1
  other_number j ne e = ne (omega arith)

  -- each table
  at_table : (j : ℕ) (plan' : TablePlan) (u' : Table) → (j ≡ i) ⊎ (j ≢ i) → IsTableAt new j plan' u'
      → Told plan' new.mode u' (text_of events (j + 1)) (ended_in events (j + 1)) (rows j)
  at_table j plan' u' (inl e) h =
      let here : IsTableAt new i plan' u' = subst (λ k. IsTableAt new k plan' u') e h in
      subst (λ k. Told plan' new.mode u' (text_of events (k + 1)) (ended_in events (k + 1)) (rows k)) (sym e)
      (subst (λ rs. Told plan' new.mode u' (text_of events (i + 1)) (ended_in events (i + 1)) rs) (sym (same_rows stands.rows i more))
      (subst (λ m. Told plan' m u' (text_of events (i + 1)) (ended_in events (i + 1)) (stands.rows i ++ more)) (sym mode_is)
      (subst (λ z. Told z old.mode u' (text_of events (i + 1)) (ended_in events (i + 1)) (stands.rows i ++ more)) (sym (the_plan plan' here.0))
      (subst (λ z. Told plan old.mode z (text_of events (i + 1)) (ended_in events (i + 1)) (stands.rows i ++ more)) (sym (the_table u' here.1)) told))))
  at_table j plan' u' (inr ne) h =
      let was : Told plan' old.mode u' (text_of past (j + 1)) (ended_in past (j + 1)) (stands.rows j) = stands.tables j plan' u' (other_at j plan' u' ne h) in
      subst (λ rs. Told plan' new.mode u' (text_of events (j + 1)) (ended_in events (j + 1)) rs) (sym (other_rows stands.rows i j more ne))
      (subst (λ m. Told plan' m u' (text_of events (j + 1)) (ended_in events (j + 1)) (stands.rows j)) (sym mode_is)
      (subst (λ b. Told plan' old.mode u' b (ended_in events (j + 1)) (stands.rows j)) (sym (texts (j + 1) (other_number j ne)))
      (subst (λ b. Told plan' old.mode u' (text_of past (j + 1)) b (stands.rows j)) (sym (ends (j + 1) (other_number j ne))) was)))

  abbrev more_triples : List Triple
  more_triples = table_triples old.mode plan.number (columns_of u) more

  -- the triples of the table's rows
  all_triples : table_triples new.mode plan.number (columns_of u) (rows i) ≡ table_triples old.mode plan.number (columns_of t) (stands.rows i) ++ more_triples
  all_triples =
      ap (λ m. table_triples m plan.number (columns_of u) (rows i)) mode_is
      ∙ (ap (λ rs. table_triples old.mode plan.number (columns_of u) rs) (same_rows stands.rows i more)
      ∙ (triples_more old.mode plan.number (columns_of u) (stands.rows i) more
      ∙ ap (λ z. z ++ more_triples) (same_triples old.mode plan.number (columns_of t) (columns_of u) (stands.rows i) keeps none)))

  other_triples : (j : ℕ) (plan' : TablePlan) (u' : Table) → j ≢ i
      → table_triples new.mode plan'.number (columns_of u') (rows j) ≡ table_triples old.mode plan'.number (columns_of u') (stands.rows j)
  other_triples j plan' u' ne =
      ap (λ m. table_triples m plan'.number (columns_of u') (rows j)) mode_is
      ∙ ap (λ rs. table_triples old.mode plan'.number (columns_of u') rs) (other_rows stands.rows i j more ne)

  -- what was in the graph is in it
  stays_in : (x : Triple) (j : ℕ) (plan' : TablePlan) (u' : Table) → (j ≡ i) ⊎ (j ≢ i) → IsTableAt old j plan' u'
      → Contains (table_triples old.mode plan'.number (columns_of u') (stands.rows j)) x → RowsGraph new rows x
  stays_in x j plan' u' (inl e) h c =
      let here : IsTableAt old i plan' u' = subst (λ k. IsTableAt old k plan' u') e h in
      let same_plan : plan' ≡ plan = one_at old.plan.tables i plan' plan here.0 is_at.0 in
      let same_table : u' ≡ t = one_at old.tables.items i u' t here.1 is_at.1 in
      let k : Contains (table_triples old.mode plan.number (columns_of t) (stands.rows i)) x =
      subst (λ z. Contains (table_triples old.mode plan.number (columns_of z) (stands.rows i)) x) same_table
      (subst (λ (z : TablePlan). Contains (table_triples old.mode z.number (columns_of u') (stands.rows i)) x) same_plan
      (subst (λ l. Contains (table_triples old.mode plan'.number (columns_of u') (stands.rows l)) x) e c)) in (
        i,
        plan,
        u,
        new_at,
        subst (λ ts. Contains ts x) (sym all_triples)
            (Contains-append_left (table_triples old.mode plan.number (columns_of t) (stands.rows i)) more_triples x k),
      )
  stays_in x j plan' u' (inr ne) h c = (j, plan', u', still_at j plan' u' ne h, subst (λ ts. Contains ts x) (sym (other_triples j plan' u' ne)) c)

  comes_in : (x : Triple) → Contains more_triples x → RowsGraph new rows x
  comes_in x c = (
    i,
    plan,
    u,
    new_at,
    subst (λ ts. Contains ts x) (sym all_triples)
        (Contains-append_right (table_triples old.mode plan.number (columns_of t) (stands.rows i)) more_triples x c),
  )

  -- what is in the graph was taken
  taken_of : (x : Triple) (j : ℕ) (plan' : TablePlan) (u' : Table) → (j ≡ i) ⊎ (j ≢ i) → IsTableAt new j plan' u'
      → Contains (table_triples new.mode plan'.number (columns_of u') (rows j)) x → Contains (stands.took.taken ++ more_triples) x
  taken_of x j plan' u' (inl e) h c =
      let here : IsTableAt new i plan' u' = subst (λ k. IsTableAt new k plan' u') e h in
      let k : Contains (table_triples new.mode plan.number (columns_of u) (rows i)) x =
      subst (λ z. Contains (table_triples new.mode plan.number (columns_of z) (rows i)) x) (the_table u' here.1)
      (subst (λ (z : TablePlan). Contains (table_triples new.mode z.number (columns_of u') (rows i)) x) (the_plan plan' here.0)
      (subst (λ l. Contains (table_triples new.mode plan'.number (columns_of u') (rows l)) x) e c)) in
      parted x (Contains-append_cases (table_triples old.mode plan.number (columns_of t) (stands.rows i)) more_triples x
      (subst (λ ts. Contains ts x) all_triples k))
    where
      parted : (y : Triple) → Contains (table_triples old.mode plan.number (columns_of t) (stands.rows i)) y ⊎ Contains more_triples y
          → Contains (stands.took.taken ++ more_triples) y
      parted y (inl a) = Contains-append_left stands.took.taken more_triples y (stands.took.whole y (i, plan, t, is_at, a))
      parted y (inr b) = Contains-append_right stands.took.taken more_triples y b
  taken_of x j plan' u' (inr ne) h c =
      Contains-append_left stands.took.taken more_triples x
      (stands.took.whole x (j, plan', u', other_at j plan' u' ne h, subst (λ ts. Contains ts x) (other_triples j plan' u' ne) c))

  in_graph : (x : Triple) → Contains stands.took.taken x ⊎ Contains more_triples x → RowsGraph new rows x
  in_graph x (inl a) = let g = stands.took.within x a in stays_in x g.0 g.1 g.2 (same_place g.0 i) g.3 g.4
  in_graph x (inr b) = comes_in x b

  -- there are no tables but those of the plan
  still_beyond : (j : ℕ) → length new.plan.tables ≤ j → rows j ≡ []
  still_beyond j above =
      let same : length new.plan.tables ≡ length old.plan.tables = ap (λ (z : List TablePlan). length z) plans in
      let here : i < length old.plan.tables = slice_get_within old.plan.tables i plan is_at.0 in
      other_rows stands.rows i j more (λ e. let at = e in omega (arith, at, same, here, above)) ∙ stands.beyond j (omega (arith, same, above))

  -- the book of keys has the rows
  still_kept : KeepsKeys new.keys (rules_of new.plan) (by_number rows)
  still_kept =
      let number : plan.number ≡ suc i = number_at old.plan i plan is_at.0 ∙ add-one i in
      let keeps_more : KeepsKeys new.keys (rules_of old.plan) (with_rows (by_number stands.rows) plan.number more) =
      kept (rules_of old.plan) (by_number stands.rows) stands.keys in
      subst (λ ps. KeepsKeys new.keys (flat_map table_rules ps) (by_number rows)) (sym plans)
      (subst (KeepsKeys new.keys (rules_of old.plan)) (λ k n. numbered_at stands.rows i more n k)
      (subst (λ n. KeepsKeys new.keys (rules_of old.plan) (with_rows (by_number stands.rows) n more)) number keeps_more))

  -- the session took one more event
  pub stands_on : new.state ≡ state.Open → gains old.sink more_triples new.sink → IsAsReady is_open failed old.sink new.sink
      → Stands gains is_open failed start events new
  stands_on state_is gained ready = record {
    rows = rows;
    tables = λ j plan' u' h. at_table j plan' u' (same_place j i) h;
    beyond = still_beyond;
    keys = still_kept;
    took = record {
      taken = stands.took.taken ++ more_triples;
      gained = goes_on start old.sink new.sink stands.took.taken more_triples stands.took.gained gained;
      within = λ x c. in_graph x (Contains-append_cases stands.took.taken more_triples x c);
      whole = λ x g. taken_of x g.0 g.1 g.2 (same_place g.0 i) g.3 g.4;
    };
    ready = (ready.0 ∙ stands.ready.0, ready.1 ∙ stands.ready.1);
    state_is = state_is;
  }
