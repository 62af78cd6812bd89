-- What a session took before a stop.
use Rattle.std.proofs.Common.{◌≡◌, ◌≢◌, ◌⊎◌, ◌+◌, ℕ, Bool, true, List, [], ◌∷◌, ◌++◌, refl, sym, ap, ◌∙◌, subst, arith, inl, inr, append-nil, append_assoc}
use Rattle.std.proofs.Common.{Contains, Option, Some, None, Err}
use Rattle.std.specs.Prelude.{slice_get}
use Rattle.std.proofs.lemmas.Bool.Decides.{eqb_tells}
use Rattle.std.proofs.lemmas.List.Concat.{flat_map-append}
use Rattle.std.proofs.lemmas.List.Elements.{Contains-append_left, Contains-append_right, Contains-append_cases}
use Rattle.csvw_fault.specs.declared.fault.Fault.{Fault}
use Rattle.csvw_rows.specs.GivenLaws.{NothingGiven}
use Rattle.csvw_records.specs.RowValue.{Given}
use Rattle.csvw_columns_core.specs.declared.columns.Columns.{Columns}
use Rattle.csvw_columns.specs.declared.plan.TablePlan.{TablePlan}
use Rattle.csvw_annotate.specs.declared.row.Row.{Row}
use Rattle.csvw_triples_core.specs.Taking.{IsAsReady}
use Rattle.csvw_triples_core.specs.declared.mode.Mode.{Mode}
use Rattle.csvw_triples_core.specs.declared.term.Triple.{Triple}
use Rattle.csvw_triples_rows.specs.ModeGraph.{TableGraph}
use Rattle.csvw_triples_rows.specs.ModeTriples.{row_triples}
use Rattle.csvw_triples.specs.OpeningTriples.{opening}
use Rattle.csvw_engine_core.specs.Annotated.{IsTable}
use Rattle.csvw_engine_core.specs.Tables.{table_triples, columns_of, header_faults_of}
use Rattle.csvw_engine_core.specs.declared.table.Table.{Table as State}
use Rattle.csvw_session.specs.Events.{Event, Feed, End, table_of, text_of, ended_in}
use Rattle.csvw_session.specs.SessionLaws.{TextsGrow}
use Rattle.csvw_session.specs.Sessions.{IsTableAt, Stands, Takes, TookGraph, GainsSome, GainsFront}
use Rattle.csvw_session.specs.declared.session.Session.{Session}
use Rattle.csvw_engine_core.specs.declared.stop.Stop.{Stop}
use Rattle.csvw_engine_core.specs.declared.stop.Stop.TheVariants as stop
use Rattle.csvw_group_laws.specs.Part.{TablePart, HasAllRows, HasSomeRows, HaveAllRows, PartGraph, PartRows, FirstRowGraph, IsCutInTable}
use Rattle.csvw_group_laws.specs.Stopped.{TookAll, TookSome, TookBy}
use Rattle.csvw_group_laws.proofs.Annotating.{OpeningIsGraph, RowsAreGraph}
use Rattle.csvw_group_laws.proofs.Headers.{same_columns, same_triples}
use Rattle.csvw_group_laws.proofs.Parts.{part_at, columns_at, have_all, took_graph, triples_are_graph}
use Rattle.csvw_group_laws.proofs.Splitting.{RowIsGraph, splits, none_in}

-- one part in the place of another
abbrev chosen : (j i : ℕ) → (j ≡ i) ⊎ (j ≢ i) → TablePart → TablePart → TablePart
chosen j i (inl e) part other = part
chosen j i (inr ne) part other = other

here_or_not : (j i : ℕ) → (j ≡ i) ⊎ (j ≢ i)
here_or_not j i = elim (eqb_tells j i) [ inl p ↦ inl p.1 | inr q ↦ inr q.1 ]

abbrev with_part : (ℕ → TablePart) → ℕ → TablePart → ℕ → TablePart
with_part parts i part j = chosen j i (here_or_not j i) part (parts j)

chosen_here : (j i : ℕ) (d : (j ≡ i) ⊎ (j ≢ i)) (part other : TablePart) → j ≡ i → chosen j i d part other ≡ part
chosen_here j i (inl e) part other same = refl
chosen_here j i (inr ne) part other same = absurd (ne same)

chosen_other : (j i : ℕ) (d : (j ≡ i) ⊎ (j ≢ i)) (part other : TablePart) → j ≢ i → chosen j i d part other ≡ other
chosen_other j i (inl e) part other apart = absurd (apart e)
chosen_other j i (inr ne) part other apart = refl

one_item : {X : Type 0} (xs : List X) (i : ℕ) (x y : X) → slice_get xs i ≡ Some x → slice_get xs i ≡ Some y → x ≡ y
one_item xs i x y e f = let k : Some x ≡ Some y = sym e ∙ f in cc

triples_more : (m : Mode) (t : ℕ) (columns : Option Columns) (rows more : List Row)
    → table_triples m t columns (rows ++ more) ≡ table_triples m t columns rows ++ table_triples m t columns more
triples_more m t None rows more = refl
triples_more m t (Some columns) rows more = flat_map-append (row_triples m t columns) rows more

-- the other tables stay
text_stays : TextsGrow → (events : List Event) (event : Event) (u : ℕ) → u ≢ table_of event → text_of (events ++ event ∷ []) u ≡ text_of events u
text_stays grow events (Feed t piece) u ne = grow.fed_other events t u piece ne
text_stays grow events (End t) u ne = grow.end_text events t u

end_stays : TextsGrow → (events : List Event) (event : Event) (u : ℕ) → u ≢ table_of event → ended_in (events ++ event ∷ []) u ≡ ended_in events u
end_stays grow events (Feed t piece) u ne = grow.fed_ended events t u piece
end_stays grow events (End t) u ne = grow.end_other events t u ne

module _ {S : Type 0} (gains : S → List Triple → S → Type 0) (cuts : S → Triple → S → Type 0) (is_open : S → Bool) (failed : S → ℕ)
    (goes_on : (a b c : S) (xs ys : List Triple) → gains a xs b → gains b ys c → gains a (xs ++ ys) c)
    (openings : OpeningIsGraph) (rows_law : RowsAreGraph) (row_law : RowIsGraph) (nothing_given : NothingGiven) (grow : TextsGrow)
    (sink start : S) (events : List Event) (event : Event) (old : Session S) (opened : gains sink (opening old.mode old.plan) start)
    (ready : IsAsReady is_open failed sink start) (h : Stands gains is_open failed start events old) where
  abbrev later : List Event
  later = events ++ event ∷ []

  abbrev had : ℕ → TablePart
  had = part_at old.tables.items h.rows

  abbrev before : TookGraph gains sink old.sink (PartGraph old.mode old.plan had)
  before = took_graph gains is_open failed goes_on openings rows_law nothing_given sink start events old opened h

  others_stay : (i j : ℕ) (plan : TablePlan) → i + 1 ≡ table_of event → slice_get old.plan.tables j ≡ Some plan → j ≢ i
      → HasAllRows plan (text_of later (j + 1)) (ended_in later (j + 1)) (had j)
  others_stay i j plan number e apart =
      let other : j + 1 ≢ table_of event = λ same. apart (omega (arith, same, number)) in
      subst (λ (text : List ℕ). HasAllRows plan text (ended_in later (j + 1)) (had j)) (sym (text_stays grow events event (j + 1) other))
      (subst (λ b. HasAllRows plan (text_of events (j + 1)) b (had j)) (sym (end_stays grow events event (j + 1) other))
      (have_all gains is_open failed goes_on openings rows_law nothing_given start events old h j plan e))

  -- rows more of one table
  module _ (i : ℕ) (plan : TablePlan) (table : State) (is_at : IsTableAt old i plan table) (given raws : List Given)
      (was : IsTable plan given (columns_of table) (header_faults_of table) (h.rows i)) (columns : Option Columns) (faults : List Fault) (more : List Row)
      (is : IsTable plan (given ++ raws) columns faults (h.rows i ++ more)) (first : List Row) where
    abbrev part : TablePart
    part = record { columns = columns; rows = h.rows i ++ first }

    abbrev now : ℕ → TablePart
    now = with_part had i part

    now_here : now i ≡ part
    now_here = chosen_here i i (here_or_not i i) part (had i) refl

    now_other : (j : ℕ) → j ≢ i → now j ≡ had j
    now_other j ne = chosen_other j i (here_or_not j i) part (had j) ne

    -- the rows that were there, by the columns that the table has now
    rows_before : table_triples old.mode plan.number (had i).columns (h.rows i) ≡ table_triples old.mode plan.number columns (h.rows i)
    rows_before =
        ap (λ c. table_triples old.mode plan.number c (h.rows i)) (ap columns_at is_at.1)
        ∙ same_triples old.mode plan.number (columns_of table) columns (h.rows i)
        (same_columns plan given raws (columns_of table) columns (header_faults_of table) faults (h.rows i) more was is)

    row_before : (x : Triple) → Contains (table_triples old.mode plan.number columns (h.rows i)) x → PartRows old.mode old.plan.tables had x
    row_before x c =
        let own = subst (λ ts. Contains ts x) (sym rows_before) c in
        (i, plan, is_at.0, (triples_are_graph rows_law old.mode plan.number (had i).columns (h.rows i) x).0 own)

    in_now : (x : Triple) → Contains (table_triples old.mode plan.number columns (h.rows i ++ first)) x → PartRows old.mode old.plan.tables now x
    in_now x c = (
      i,
      plan,
      is_at.0,
      subst (λ (p : TablePart). TableGraph old.mode plan.number p.columns p.rows x) (sym now_here)
          ((triples_are_graph rows_law old.mode plan.number columns (h.rows i ++ first) x).0 c),
    )

    from_now : (x : Triple) → PartRows old.mode old.plan.tables now x
        → PartRows old.mode old.plan.tables had x ⊎ Contains (table_triples old.mode plan.number columns first) x
    from_now x k = elim (here_or_not k.0 i) [
      | inr ne ↦ inl (k.0, k.1, k.2, subst (λ (p : TablePart). TableGraph old.mode k.1.number p.columns p.rows x) (now_other k.0 ne) k.3)
      | inl same ↦ here same
    ]
      where
        here : k.0 ≡ i → PartRows old.mode old.plan.tables had x ⊎ Contains (table_triples old.mode plan.number columns first) x
        here same =
            let own : k.1 ≡ plan = one_item old.plan.tables i k.1 plan (subst (λ j. slice_get old.plan.tables j ≡ Some k.1) same k.2) is_at.0 in
            let at : TableGraph old.mode k.1.number (now i).columns (now i).rows x =
            subst (λ j. TableGraph old.mode k.1.number (now j).columns (now j).rows x) same k.3 in
            let graph : TableGraph old.mode plan.number columns (h.rows i ++ first) x =
            subst (λ (p : TablePart). TableGraph old.mode plan.number p.columns p.rows x) now_here
            (subst (λ (z : TablePlan). TableGraph old.mode z.number (now i).columns (now i).rows x) own at) in
            let all = (triples_are_graph rows_law old.mode plan.number columns (h.rows i ++ first) x).1 graph in
            elim (Contains-append_cases (table_triples old.mode plan.number columns (h.rows i)) (table_triples old.mode plan.number columns first) x
            (subst (λ ts. Contains ts x) (triples_more old.mode plan.number columns (h.rows i) first) all)) [
              | inl c ↦ inl (row_before x c)
              | inr c ↦ inr c
            ]

    into_now : (x : Triple) → PartRows old.mode old.plan.tables had x → PartRows old.mode old.plan.tables now x
    into_now x k = elim (here_or_not k.0 i) [
      | inr ne ↦ (k.0, k.1, k.2, subst (λ (p : TablePart). TableGraph old.mode k.1.number p.columns p.rows x) (sym (now_other k.0 ne)) k.3)
      | inl same ↦ here same
    ]
      where
        here : k.0 ≡ i → PartRows old.mode old.plan.tables now x
        here same =
            let own : k.1 ≡ plan = one_item old.plan.tables i k.1 plan (subst (λ j. slice_get old.plan.tables j ≡ Some k.1) same k.2) is_at.0 in
            let at : TableGraph old.mode k.1.number (had i).columns (h.rows i) x =
            subst (λ j. TableGraph old.mode k.1.number (had j).columns (had j).rows x) same k.3 in
            let c = (triples_are_graph rows_law old.mode plan.number (had i).columns (h.rows i) x).1
            (subst (λ (z : TablePlan). TableGraph old.mode z.number (had i).columns (h.rows i) x) own at) in
            in_now x
            (subst (λ ts. Contains ts x) (sym (triples_more old.mode plan.number columns (h.rows i) first))
            (Contains-append_left (table_triples old.mode plan.number columns (h.rows i)) (table_triples old.mode plan.number columns first) x
            (subst (λ ts. Contains ts x) rows_before c)))

    -- the triples of these rows, after all that were taken before, and some more
    module _ (front some : List Triple) (front_is : front ≡ table_triples old.mode plan.number columns first ++ some) where
      whole : (x : Triple) → PartGraph old.mode old.plan now x → Contains (before.taken ++ front) x
      whole x (inl o) = Contains-append_left before.taken front x (before.whole x (inl o))
      whole x (inr k) = elim (from_now x k) [
        | inl b ↦ Contains-append_left before.taken front x (before.whole x (inr b))
        | inr c ↦ Contains-append_right before.taken front x
            (subst (λ ts. Contains ts x) (sym front_is) (Contains-append_left (table_triples old.mode plan.number columns first) some x c))
      ]

      within_front : (x : Triple) → Contains front x → PartGraph old.mode old.plan now x ⊎ Contains some x
      within_front x c =
          elim (Contains-append_cases (table_triples old.mode plan.number columns first) some x (subst (λ ts. Contains ts x) front_is c)) [
            | inl k ↦ inl (inr (in_now x (subst (λ ts. Contains ts x) (sym (triples_more old.mode plan.number columns (h.rows i) first))
                (Contains-append_right (table_triples old.mode plan.number columns (h.rows i)) (table_triples old.mode plan.number columns first) x k))))
            | inr k ↦ inr k
          ]

      within : (x : Triple) → Contains (before.taken ++ front) x → PartGraph old.mode old.plan now x ⊎ Contains some x
      within x c = elim (Contains-append_cases before.taken front x c) [
        | inl k ↦ inl (elim (before.within x k) [ inl o ↦ inl o | inr r ↦ inr (into_now x r) ])
        | inr k ↦ within_front x k
      ]

  module _ (new : Session S) (t : ℕ) (is_of : table_of event ≡ t) where
    -- a call that was cut short
    module _ (Fails Before : Type 0) (so : Fails → Before) (at : GainsSome gains cuts old new t later h.rows Before) where
      number : at.i + 1 ≡ table_of event
      number = at.number ∙ sym is_of

      abbrev shown : List Row → ℕ → TablePart
      shown first = with_part had at.i (record { columns = at.leaves.columns; rows = h.rows at.i ++ first })

      some_rows : (first behind : List Row) → at.leaves.more ≡ first ++ behind
          → HasSomeRows at.plan (text_of later (at.i + 1)) (ended_in later (at.i + 1))
          (record { columns = at.leaves.columns; rows = h.rows at.i ++ first }) behind
      some_rows first behind parted = rw at.number (record {
        given = at.given ++ at.leaves.raws;
        first = at.leaves.first;
        faults = at.leaves.faults;
        table = subst (λ (rows : List Row). IsTable at.plan (at.given ++ at.leaves.raws) at.leaves.columns at.leaves.faults rows)
            (ap (λ rows. h.rows at.i ++ rows) parted ∙ sym (append_assoc (h.rows at.i) first behind)) at.leaves.table;
      })

      cut_in_table : (front rest : List Triple) → table_triples old.mode at.plan.number at.leaves.columns at.leaves.more ≡ front ++ rest
          → IsCutInTable old.mode old.plan later (before.taken ++ front) rest
      cut_in_table front rest e =
          let s = splits row_law old.mode at.plan.number at.leaves.columns at.leaves.more front rest e in
          let here = now_here at.i at.plan at.table at.is_at at.given at.leaves.raws at.was at.leaves.columns at.leaves.faults
          at.leaves.more at.leaves.table s.first in
          record {
            before = events;
            event = event;
            all = refl;
            i = at.i;
            number = number;
            parts = shown s.first;
            behind = s.behind;
            have = record {
              others = λ j plan p apart. subst (HasAllRows plan (text_of later (j + 1)) (ended_in later (j + 1)))
                  (sym (now_other at.i at.plan at.table at.is_at at.given at.leaves.raws at.was at.leaves.columns at.leaves.faults
                  at.leaves.more at.leaves.table s.first j apart))
                  (others_stay at.i j plan number p apart);
              plan = at.plan;
              is_at = at.is_at.0;
              old = had at.i;
              had = have_all gains is_open failed goes_on openings rows_law nothing_given start events old h at.i at.plan at.is_at.0;
              more = s.first;
              rows = ap (λ (p : TablePart). p.rows) here;
              has = subst (λ (p : TablePart). HasSomeRows at.plan (text_of later (at.i + 1)) (ended_in later (at.i + 1)) p s.behind) (sym here)
                  (some_rows s.first s.behind s.parts);
            };
            whole = whole at.i at.plan at.table at.is_at at.given at.leaves.raws at.was at.leaves.columns at.leaves.faults at.leaves.more
                at.leaves.table s.first front s.some s.front_is;
            within = λ x c.
                elim (within at.i at.plan at.table at.is_at at.given at.leaves.raws at.was at.leaves.columns at.leaves.faults
                at.leaves.more at.leaves.table s.first front s.some s.front_is x c) [
                  | inl g ↦ inl g
                  | inr k ↦ inr (subst (λ (p : TablePart). FirstRowGraph old.mode at.plan.number p.columns s.behind x) (sym here) (s.within x k))
                ];
            next = λ x xs f. subst (λ (p : TablePart). FirstRowGraph old.mode at.plan.number p.columns s.behind x) (sym here) (s.next x xs f);
          }

      took_some : TookSome gains cuts is_open failed old.mode old.plan later sink new.sink Fails
      took_some = record {
        taken = before.taken;
        middle = old.sink;
        gained = before.gained;
        ready = (h.ready.0 ∙ ready.0, h.ready.1 ∙ ready.1);
        more = table_triples old.mode at.plan.number at.leaves.columns at.leaves.more;
        took = record {
          front = at.leaves.took.front;
          rest = at.leaves.took.rest;
          parts = at.leaves.took.parts;
          gained = at.leaves.took.gained;
          cut = λ fails. at.leaves.took.cut (so fails);
        };
        cut = λ front rest e. inr (cut_in_table front rest e);
      }

    -- a call that stopped in the text
    module _ (Why : TablePlan → Option Columns → List Given → Type 0) (at : GainsFront gains old new t later h.rows Why)
        (tells : (plan : TablePlan) (columns : Option Columns) (given : List Given) → Why plan columns given
        → (rows : List Row) (faults : List Fault) → IsTable plan given columns faults rows
        → HasAllRows plan (text_of later t) (ended_in later t) (record { columns = columns; rows = rows })) where
      number_front : at.i + 1 ≡ table_of event
      number_front = at.number ∙ sym is_of

      abbrev shown_front : ℕ → TablePart
      shown_front = with_part had at.i (record { columns = at.leaves.columns; rows = h.rows at.i ++ at.leaves.more })

      front_here : shown_front at.i ≡ record { columns = at.leaves.columns; rows = h.rows at.i ++ at.leaves.more }
      front_here = now_here at.i at.plan at.table at.is_at at.given at.leaves.raws at.was at.leaves.columns at.leaves.faults at.leaves.more
          at.leaves.table at.leaves.more

      all_here : HasAllRows at.plan (text_of later (at.i + 1)) (ended_in later (at.i + 1)) (shown_front at.i)
      all_here =
          subst (HasAllRows at.plan (text_of later (at.i + 1)) (ended_in later (at.i + 1))) (sym front_here)
          (rw at.number (tells at.plan at.leaves.columns (at.given ++ at.leaves.raws) at.leaves.why (h.rows at.i ++ at.leaves.more)
          at.leaves.faults at.leaves.table))

      all_at : (j : ℕ) → j ≡ at.i → (plan : TablePlan) → slice_get old.plan.tables j ≡ Some plan
          → HasAllRows plan (text_of later (j + 1)) (ended_in later (j + 1)) (shown_front j)
      all_at j same plan e =
          let own : at.plan ≡ plan = one_item old.plan.tables at.i at.plan plan at.is_at.0 (subst (λ k. slice_get old.plan.tables k ≡ Some plan) same e) in
          subst (λ k. HasAllRows plan (text_of later (k + 1)) (ended_in later (k + 1)) (shown_front k)) (sym same)
          (subst (λ (z : TablePlan). HasAllRows z (text_of later (at.i + 1)) (ended_in later (at.i + 1)) (shown_front at.i)) own all_here)

      have_front : HaveAllRows old.plan.tables later shown_front
      have_front j plan e = elim (here_or_not j at.i) [
        | inl same ↦ all_at j same plan e
        | inr apart ↦ subst (HasAllRows plan (text_of later (j + 1)) (ended_in later (j + 1)))
            (sym (now_other at.i at.plan at.table at.is_at at.given at.leaves.raws at.was at.leaves.columns at.leaves.faults at.leaves.more
            at.leaves.table at.leaves.more j apart))
            (others_stay at.i j plan number_front e apart)
      ]

      abbrev of_rows : List Triple
      of_rows = table_triples old.mode at.plan.number at.leaves.columns at.leaves.more

      took_front : TookAll gains old.mode old.plan later sink new.sink
      took_front = record {
        parts = shown_front;
        have = have_front;
        took = record {
          taken = before.taken ++ of_rows;
          gained = goes_on sink old.sink new.sink before.taken of_rows before.gained at.leaves.took;
          within = λ x c.
              elim (within at.i at.plan at.table at.is_at at.given at.leaves.raws at.was at.leaves.columns at.leaves.faults at.leaves.more
              at.leaves.table at.leaves.more of_rows [] (sym (append-nil of_rows)) x c) [
                | inl g ↦ g
                | inr none ↦ absurd (none_in x none)
              ];
          whole = whole at.i at.plan at.table at.is_at at.given at.leaves.raws at.was at.leaves.columns at.leaves.faults at.leaves.more
              at.leaves.table at.leaves.more of_rows [] (sym (append-nil of_rows));
        };
      }

    pub took_by : (reason : Stop) → Takes gains cuts is_open failed old new t event (Err reason)
        → TookBy gains cuts is_open failed old.mode old.plan later sink new.sink reason
    took_by stop.Memory k = took_some ⊥ ⊥ (λ fails. fails) (k.1 start events h).0
    took_by stop.Write k =
        took_some (is_open sink ≡ true) (is_open old.sink ≡ true) (λ begun. h.ready.0 ∙ (ready.0 ∙ begun)) (k.1 start events h).0
    took_by (stop.Rows u row reason) k =
        took_front _ (k.2 start events h).0
        (λ plan columns given why rows faults table. record { given = given; faults = faults; table = inl table; all = inl why.all })
    took_by (stop.Table u row reason) k =
        took_front _ (k.2 start events h).0
        (λ plan columns given why rows faults table. record { given = given; faults = faults; table = inl table; all = inr (row, reason, why) })
    took_by stop.Read k = absurd k
    took_by other k = tt
