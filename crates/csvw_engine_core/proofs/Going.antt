-- How a table and its sink go on, row by row.
use Rattle.std.proofs.Common.{◌≡◌, ◌+◌, ℕ, Bool, true, false, List, [], ◌∷◌, ◌++◌, refl, sym, ap, ◌∙◌, subst, append_assoc, append-nil, Option, Some}
use Rattle.std.proofs.Common.{None, Result, Err}
use Rattle.std.specs.Prelude.{nat_eq, if◌then◌else◌}
use Rattle.std.proofs.lemmas.List.Concat.{flat_map-append}
use Rattle.csvw_fault.specs.declared.fault.Fault.{Fault}
use Rattle.csvw_rows.specs.GivenLaws.{GivenFirst}
use Rattle.csvw_records.specs.RowValue.{Given}
use Rattle.csvw_columns_core.specs.declared.columns.Columns.{Columns}
use Rattle.csvw_columns.specs.declared.plan.TablePlan.{TablePlan}
use Rattle.csvw_annotate.specs.declared.row.Row.{Row}
use Rattle.csvw_keys.specs.Books.{KeepsKeys}
use Rattle.csvw_keys.specs.KeyRules.{KeyRule}
use Rattle.csvw_keys.specs.Tables.{with_row, with_rows}
use Rattle.csvw_keys.specs.declared.key_book.KeyBook.{KeyBook}
use Rattle.csvw_triples_core.specs.Taking.{Ends, FrontOf, IsAsReady, IsCutAfter}
use Rattle.csvw_triples_core.specs.declared.mode.Mode.{Mode}
use Rattle.csvw_triples_core.specs.declared.sink.SinkFault.{SinkFault}
use Rattle.csvw_triples_core.specs.declared.sink.SinkFault.TheVariants as fault
use Rattle.csvw_triples_core.specs.declared.term.Triple.{Triple}
use Rattle.csvw_triples_rows.specs.ModeTriples.{row_triples}
use Rattle.csvw_engine_core.specs.Annotated.{IsTable, HasRows}
use Rattle.csvw_engine_core.specs.Faults.{row_faults, table_faults}
use Rattle.csvw_engine_core.specs.Stops.{of_fault}
use Rattle.csvw_engine_core.specs.Tables.{max_rows, TableHolds, KeepsColumns, Keeps, Goes, StopsTable, IsStopped, IsRefused, IsAtRest, Gives, Gone}
use Rattle.csvw_engine_core.specs.Tables.{GivesAll, GivesSome, GivesFront, TableOutcome, Outlets, AddsRows, table_triples}
use Rattle.csvw_engine_core.specs.declared.stop.Stop.{Stop}
use Rattle.csvw_engine_core.specs.declared.stop.Stop.TheVariants as stop
use Rattle.csvw_engine_core.specs.declared.table.Table.{Table}

-- what the fault of a sink means for the row that it was given
pub gave_part : {S : Type 0} (gains : S → List Triple → S → Type 0) (cuts : S → Triple → S → Type 0) (is_open : S → Bool) (failed : S → ℕ)
    (ts : List Triple) (old new : S) (e : SinkFault)
    → FrontOf gains cuts old ts new (e ≡ fault.Device) → Ends is_open failed old new (Err e)
    → Gives gains cuts is_open failed ts old new (Err (of_fault e))
gave_part gains cuts is_open failed ts old new fault.Memory f ends =
    (record { front = f.front; rest = f.rest; parts = f.parts; gained = f.gained; cut = λ fails. absurd fails }, ends)
gave_part gains cuts is_open failed ts old new fault.Device f ends = (
  record { front = f.front; rest = f.rest; parts = f.parts; gained = f.gained; cut = λ begun. f.cut refl },
  ends.0,
  λ begun room. ends.1 room,
)
gave_part gains cuts is_open failed ts old new fault.Closed f ends =
    let never : is_open old ≡ true → ⊥ = λ begun. let wrong : false ≡ true = sym ends.0 ∙ begun in cc in (
      record { front = f.front; rest = f.rest; parts = f.parts; gained = f.gained; cut = λ begun. absurd (never begun) },
      ends.1.0 ∙ ends.0,
      λ begun room. absurd (never begun),
    )

-- and the same if the row is one of a table whose columns are known
pub gave_row : {S : Type 0} (gains : S → List Triple → S → Type 0) (cuts : S → Triple → S → Type 0) (is_open : S → Bool) (failed : S → ℕ)
    (mode : Mode) (t : ℕ) (known : Option Columns) (columns : Columns) (row : Row) (old new : S) (e : SinkFault) (r : Result Unit Stop) (f : Stop)
    → known ≡ Some columns → r ≡ Err f → f ≡ of_fault e
    → FrontOf gains cuts old (row_triples mode t columns row) new (e ≡ fault.Device) → Ends is_open failed old new (Err e)
    → Gives gains cuts is_open failed (table_triples mode t known (row ∷ [])) old new r
gave_row gains cuts is_open failed mode t known columns row old new e r f is p q front ends =
    let own = subst (λ ts. FrontOf gains cuts old ts new (e ≡ fault.Device)) (sym (append-nil (row_triples mode t columns row))) front in
    subst (λ z. Gives gains cuts is_open failed (table_triples mode t z (row ∷ [])) old new r) (sym is)
    (subst (Gives gains cuts is_open failed (table_triples mode t (Some columns) (row ∷ [])) old new) (sym (p ∙ ap Err q))
    (gave_part gains cuts is_open failed (row_triples mode t columns row ++ []) old new e own ends))

pub no_triples : (mode : Mode) (t : ℕ) (columns : Option Columns) → table_triples mode t columns [] ≡ []
no_triples mode t None = refl
no_triples mode t (Some columns) = refl

pub triples_more : (mode : Mode) (t : ℕ) (columns : Option Columns) (rows more : List Row)
    → table_triples mode t columns (rows ++ more) ≡ table_triples mode t columns rows ++ table_triples mode t columns more
triples_more mode t None rows more = refl
triples_more mode t (Some columns) rows more = flat_map-append (row_triples mode t columns) rows more

no_faults : (t : ℕ) (columns : Option Columns) → table_faults t columns [] ≡ []
no_faults t None = refl
no_faults t (Some columns) = refl

pub faults_more : (t : ℕ) (columns : Option Columns) (rows more : List Row)
    → table_faults t columns (rows ++ more) ≡ table_faults t columns rows ++ table_faults t columns more
faults_more t None rows more = refl
faults_more t (Some columns) rows more = flat_map-append (row_faults t columns.columns) rows more

both_empty : {X : Type 0} (xs ys : List X) → xs ++ ys ≡ [] → ys ≡ []
both_empty [] ys e = e
both_empty (x ∷ xs) ys e = cc

-- rows that were given before keep their triples and faults
pub same_triples : (mode : Mode) (t : ℕ) (old new : Option Columns) (more : List Row)
    → ((columns : Columns) → old ≡ Some columns → new ≡ Some columns) → (old ≡ None → more ≡ [])
    → table_triples mode t new more ≡ table_triples mode t old more
same_triples mode t None new more stay none = ap (table_triples mode t new) (none refl) ∙ no_triples mode t new
same_triples mode t (Some columns) new more stay none = ap (λ z. table_triples mode t z more) (stay columns refl)

pub same_faults : (t : ℕ) (old new : Option Columns) (more : List Row) → ((columns : Columns) → old ≡ Some columns → new ≡ Some columns)
    → (old ≡ None → more ≡ [])
    → table_faults t new more ≡ table_faults t old more
same_faults t None new more stay none = ap (table_faults t new) (none refl) ∙ no_faults t new
same_faults t (Some columns) new more stay none = ap (λ z. table_faults t z more) (stay columns refl)

pub none_more : (plan : TablePlan) (columns : Option Columns) (given : List Given) (rows more : List Row) → HasRows plan columns given (rows ++ more)
    → columns ≡ None → more ≡ []
none_more plan None given rows more h e = both_empty rows more h
none_more plan (Some columns) given rows more h e = cc

no_rows_at : (b : Bool) (rows : List Row) → rows ≡ (if b then rows ++ [] else rows)
no_rows_at true rows = sym (append-nil rows)
no_rows_at false rows = refl

row_behind : (b : Bool) (rows more : List Row) (row : Row)
    → (if b then (if b then rows ++ more else rows) ++ row ∷ [] else (if b then rows ++ more else rows)) ≡ (if b then rows ++ (more ++ row ∷ []) else rows)
row_behind true rows more row = append_assoc rows more (row ∷ [])
row_behind false rows more row = refl

-- no rows more
pub adds_none : (t : ℕ) (book : KeyBook) → AddsRows t [] book book
adds_none t book rules tables k = subst (KeepsKeys book rules) (λ i n. no_rows_at (nat_eq t n) (tables n) i) k

-- a row after others
pub adds_row : (t : ℕ) (more : List Row) (row : Row) (first old new : KeyBook) → AddsRows t more first old
    → ((rules : List KeyRule) (tables : ℕ → List Row) → KeepsKeys old rules tables → KeepsKeys new rules (with_row tables t row))
    → AddsRows t (more ++ row ∷ []) first new
adds_row t more row first old new before add rules tables k =
    subst (KeepsKeys new rules) (λ i n. row_behind (nat_eq t n) (tables n) more row i) (add rules (with_rows tables t more) (before rules tables k))

-- the same table with other faults
pub holds_told : (plan : TablePlan) (mode : Mode) (t : Table) (faults : List Fault) (bytes : List ℕ) (ended : Bool) (given : List Given) (rows : List Row)
    → TableHolds plan mode t bytes ended given rows → TableHolds plan mode (record t { faults = faults }) bytes ended given rows
holds_told plan mode t faults bytes ended given rows h = record { number_is = h.number_is; mode_is = h.mode_is; reader = h.reader; head = h.head; has = h.has }

module _ {S : Type 0} (gains : S → List Triple → S → Type 0) (cuts : S → Triple → S → Type 0) (is_open : S → Bool) (failed : S → ℕ)
    (stays : (s : S) → gains s [] s) (goes_on : (a b c : S) (xs ys : List Triple) → gains a xs b → gains b ys c → gains a (xs ++ ys) c)
    (plan : TablePlan) (mode : Mode) (bytes : List ℕ) (ended : Bool) (given : List Given) (rows : List Row) where
  pub gone_nothing : (t : Table) (s : Outlets S) → TableHolds plan mode t bytes ended given rows → Gone gains plan mode bytes ended given rows t t s s
  gone_nothing t s h = record {
    raws = [];
    more = [];
    holds = subst (λ g. TableHolds plan mode t bytes ended g (rows ++ [])) (sym (append-nil given))
        (subst (λ r. TableHolds plan mode t bytes ended given r) (sym (append-nil rows)) h);
    took = subst (λ ts. gains s.sink ts s.sink) (sym (no_triples mode plan.number t.head.columns)) (stays s.sink);
    kept = adds_none plan.number s.keys;
    told = sym (ap (λ z. t.faults ++ z) (no_faults plan.number t.head.columns) ∙ append-nil t.faults);
    keeps = λ columns e. e;
  }

  module _ (first : Table) (start : Outlets S) where
    -- the rows that were given grow with the table
    took_on : (old new : Table) (now : Outlets S) → KeepsColumns old new → (g : Gone gains plan mode bytes ended given rows first old start now)
        → gains start.sink (table_triples mode plan.number new.head.columns g.more) now.sink
    took_on old new now stay g =
        subst (λ ts. gains start.sink ts now.sink) (sym (same_triples mode plan.number old.head.columns new.head.columns g.more stay
        (none_more plan old.head.columns (given ++ g.raws) rows g.more g.holds.has))) g.took

    told_on : (old new : Table) (now : Outlets S) → KeepsColumns old new → (g : Gone gains plan mode bytes ended given rows first old start now)
        → old.faults ≡ first.faults ++ table_faults plan.number new.head.columns g.more
    told_on old new now stay g =
        g.told ∙ ap (λ z. first.faults ++ z) (sym (same_faults plan.number old.head.columns new.head.columns g.more stay
        (none_more plan old.head.columns (given ++ g.raws) rows g.more g.holds.has)))

    -- a header row
    pub gone_header : (old new : Table) (now : Outlets S) → Keeps old new → Goes plan old new (λ r. r)
        → Gone gains plan mode bytes ended given rows first old start now → Gone gains plan mode bytes ended given rows first new start now
    gone_header old new now keeps goes g =
        let k = goes mode bytes ended (given ++ g.raws) (rows ++ g.more) g.holds in
        record {
          raws = g.raws ++ k.0 ∷ [];
          more = g.more;
          holds = subst (λ z. TableHolds plan mode new bytes ended z (rows ++ g.more)) (append_assoc given g.raws (k.0 ∷ [])) k.1;
          took = took_on old new now keeps.columns g;
          kept = g.kept;
          told = keeps.faults ∙ told_on old new now keeps.columns g;
          keeps = λ columns e. keeps.columns columns (g.keeps columns e);
        }

    -- nothing more
    pub gone_same : (old new : Table) (now : Outlets S) → Keeps old new
        → ((m : Mode) (b : List ℕ) (e : Bool) (gs : List Given) (rs : List Row) → TableHolds plan m old b e gs rs
        → TableHolds plan m new b e gs rs × IsAtRest plan b e gs)
        → Gone gains plan mode bytes ended given rows first old start now → GivesAll gains plan mode bytes ended given rows first new start now
    gone_same old new now keeps goes g =
        let k = goes mode bytes ended (given ++ g.raws) (rows ++ g.more) g.holds in
        record {
          gone = record {
            raws = g.raws;
            more = g.more;
            holds = k.0;
            took = took_on old new now keeps.columns g;
            kept = g.kept;
            told = keeps.faults
                ∙ told_on old new now keeps.columns g;
            keeps = λ columns e. keeps.columns columns (g.keeps columns e);
          };
          at_rest = k.1;
        }

    -- the table with its row and its faults
    held_row : (old mid new : Table) (now : Outlets S) (row : Row) → Goes plan old mid (λ r. r ++ row ∷ []) → new ≡ record mid { faults = new.faults }
        → (g : Gone gains plan mode bytes ended given rows first old start now)
        → (raw : Given) × TableHolds plan mode new bytes ended (given ++ (g.raws ++ raw ∷ [])) (rows ++ (g.more ++ row ∷ []))
    held_row old mid new now row goes same g =
        let k = goes mode bytes ended (given ++ g.raws) (rows ++ g.more) g.holds in
        let there : TableHolds plan mode (record mid { faults = new.faults }) bytes ended ((given ++ g.raws) ++ k.0 ∷ []) ((rows ++ g.more) ++ row ∷ []) =
        holds_told plan mode mid new.faults bytes ended ((given ++ g.raws) ++ k.0 ∷ []) ((rows ++ g.more) ++ row ∷ []) k.1 in (
          k.0,
          subst (λ t. TableHolds plan mode t bytes ended (given ++ (g.raws ++ k.0 ∷ [])) (rows ++ (g.more ++ row ∷ []))) (sym same)
              (subst (λ z. TableHolds plan mode (record mid { faults = new.faults }) bytes ended z (rows ++ (g.more ++ row ∷ [])))
              (append_assoc given g.raws (k.0 ∷ []))
              (subst (λ z. TableHolds plan mode (record mid { faults = new.faults }) bytes ended ((given ++ g.raws) ++ k.0 ∷ []) z)
              (append_assoc rows g.more (row ∷ [])) there)),
        )

    -- a row, whose triples the sink took, and its keys the book
    pub gone_row : (old mid new : Table) (now after : Outlets S) (row : Row) → Keeps old mid → Goes plan old mid (λ r. r ++ row ∷ [])
        → new ≡ record mid { faults = new.faults }
        → new.faults ≡ mid.faults ++ table_faults mid.number mid.head.columns (row ∷ [])
        → gains now.sink (table_triples new.mode new.number new.head.columns (row ∷ [])) after.sink
        → ((rules : List KeyRule) (tables : ℕ → List Row) → KeepsKeys now.keys rules tables → KeepsKeys after.keys rules (with_row tables new.number row))
        → Gone gains plan mode bytes ended given rows first old start now → Gone gains plan mode bytes ended given rows first new start after
    gone_row old mid new now after row keeps goes same told gained added g =
        let k = held_row old mid new now row goes same g in
        let columns : new.head.columns ≡ mid.head.columns = ap (λ (t : Table). t.head.columns) same in
        let stay : KeepsColumns old new = λ c e. columns ∙ keeps.columns c e in
        let number : new.number ≡ plan.number = k.1.number_is in
        let numbered : mid.number ≡ plan.number = sym (ap (λ (t : Table). t.number) same) ∙ number in
        record {
          raws = g.raws ++ k.0 ∷ [];
          more = g.more ++ row ∷ [];
          holds = k.1;
          took = subst (λ ts. gains start.sink ts after.sink) (sym (triples_more mode plan.number new.head.columns g.more (row ∷ [])))
              (goes_on start.sink now.sink after.sink (table_triples mode plan.number new.head.columns g.more)
              (table_triples mode plan.number new.head.columns (row ∷ [])) (took_on old new now stay g)
              (subst (λ m. gains now.sink (table_triples m plan.number new.head.columns (row ∷ [])) after.sink) k.1.mode_is
              (subst (λ n. gains now.sink (table_triples new.mode n new.head.columns (row ∷ [])) after.sink) number gained)));
          kept = adds_row plan.number g.more row start.keys now.keys after.keys g.kept
              (λ rules tables b. subst (λ n. KeepsKeys after.keys rules (with_row tables n row)) number (added rules tables b));
          told = told
              ∙ (ap (λ z. z ++ table_faults mid.number mid.head.columns (row ∷ [])) (keeps.faults ∙ told_on old new now stay g)
              ∙ (append_assoc first.faults (table_faults plan.number new.head.columns g.more) (table_faults mid.number mid.head.columns (row ∷ []))
              ∙ ap (λ z. first.faults ++ z)
              (ap (λ z. table_faults plan.number new.head.columns g.more ++ z)
              (ap (λ n. table_faults n mid.head.columns (row ∷ [])) numbered ∙ ap (λ c. table_faults plan.number c (row ∷ [])) (sym columns))
              ∙ sym (faults_more plan.number new.head.columns g.more (row ∷ [])))));
          keeps = λ columns e. stay columns (g.keeps columns e);
        }

    table_of : (t : Table) (gs : List Given) (rs : List Row) → TableHolds plan mode t bytes ended gs rs → IsTable plan gs t.head.columns t.head.faults rs
    table_of t gs rs h = record { head = h.head.known; has = h.has }

    part_of_all : (now : Outlets S) (ts : List Triple) → gains start.sink ts now.sink → FrontOf gains cuts start.sink ts now.sink ⊥
    part_of_all now ts g = record { front = ts; rest = []; parts = sym (append-nil ts); gained = g; cut = λ fails. absurd fails }

    -- a cut after more triples
    cut_on : (now after : S) (xs front rest : List Triple) → gains start.sink xs now → IsCutAfter gains cuts now front rest after
        → IsCutAfter gains cuts start.sink (xs ++ front) rest after
    cut_on now after xs front rest g k = record {
      middle = k.middle;
      before = goes_on start.sink now k.middle xs front g k.before;
      next = k.next;
      more = k.more;
      rest_is = k.rest_is;
      cut = k.cut;
    }

    part_on : (now after : Outlets S) (xs ys : List Triple) (Fails Before : Type 0) → (Fails → Before) → gains start.sink xs now.sink
        → FrontOf gains cuts now.sink ys after.sink Before → FrontOf gains cuts start.sink (xs ++ ys) after.sink Fails
    part_on now after xs ys Fails Before so g f = record {
      front = xs ++ f.front;
      rest = f.rest;
      parts = ap (λ z. xs ++ z) f.parts ∙ sym (append_assoc xs f.front f.rest);
      gained = goes_on start.sink now.sink after.sink xs f.front g f.gained;
      cut = λ fails. cut_on now.sink after.sink xs f.front f.rest g (f.cut (so fails));
    }

    -- between two rows
    pub some_given : GivenFirst → (t : Table) (now : Outlets S) → Gone gains plan mode bytes ended given rows first t start now
        → GivesSome gains cuts plan mode bytes ended given rows start.sink now.sink ⊥
    some_given law t now g = record {
      raws = g.raws;
      more = g.more;
      first = law t.rows plan.dialect max_rows bytes ended (given ++ g.raws) g.holds.reader;
      columns = t.head.columns;
      faults = t.head.faults;
      table = table_of t (given ++ g.raws) (rows ++ g.more) g.holds;
      took = part_of_all now (table_triples mode plan.number t.head.columns g.more) g.took;
    }

    -- within the triples of a row
    pub row_cut : GivenFirst → (old mid new : Table) (now after : Outlets S) (row : Row) (Fails Before : Type 0) → (Fails → Before) → Keeps old mid
        → Goes plan old mid (λ r. r ++ row ∷ [])
        → new ≡ record mid { faults = new.faults }
        → FrontOf gains cuts now.sink (table_triples new.mode new.number new.head.columns (row ∷ [])) after.sink Before
        → Gone gains plan mode bytes ended given rows first old start now → GivesSome gains cuts plan mode bytes ended given rows start.sink after.sink Fails
    row_cut law old mid new now after row Fails Before so keeps goes same cut g =
        let k = held_row old mid new now row goes same g in
        let columns : new.head.columns ≡ mid.head.columns = ap (λ (t : Table). t.head.columns) same in
        let stay : KeepsColumns old new = λ c e. columns ∙ keeps.columns c e in
        record {
          raws = g.raws ++ k.0 ∷ [];
          more = g.more ++ row ∷ [];
          first = law new.rows plan.dialect max_rows bytes ended (given ++ (g.raws ++ k.0 ∷ [])) k.1.reader;
          columns = new.head.columns;
          faults = new.head.faults;
          table = table_of new (given ++ (g.raws ++ k.0 ∷ [])) (rows ++ (g.more ++ row ∷ [])) k.1;
          took = subst (λ ts. FrontOf gains cuts start.sink ts after.sink Fails) (sym (triples_more mode plan.number new.head.columns g.more (row ∷ [])))
              (part_on now after (table_triples mode plan.number new.head.columns g.more) (table_triples mode plan.number new.head.columns (row ∷ []))
              Fails Before so (took_on old new now stay g)
              (subst (λ m. FrontOf gains cuts now.sink (table_triples m plan.number new.head.columns (row ∷ [])) after.sink Before) k.1.mode_is
              (subst (λ n. FrontOf gains cuts now.sink (table_triples new.mode n new.head.columns (row ∷ [])) after.sink Before) k.1.number_is cut)));
        }

    all_given : (t : Table) (now : Outlets S) (Why : Option Columns → List Given → Type 0)
        → (g : Gone gains plan mode bytes ended given rows first t start now) → Why t.head.columns (given ++ g.raws)
        → GivesFront gains plan mode bytes ended given rows start.sink now.sink Why
    all_given t now Why g why = record {
      raws = g.raws;
      more = g.more;
      columns = t.head.columns;
      faults = t.head.faults;
      table = table_of t (given ++ g.raws) (rows ++ g.more) g.holds;
      why = why;
      took = g.took;
    }

    -- a stop in the text
    pub text_stops : GivenFirst → (t new : Table) (now : Outlets S) (reason : Stop) → StopsTable plan t reason → IsAsReady is_open failed start.sink now.sink
        → Gone gains plan mode bytes ended given rows first t start now
        → TableOutcome gains cuts is_open failed plan mode bytes ended given rows first new start now (Err reason)
    text_stops law t new now stop.Memory so ready g = (some_given law t now g, ready)
    text_stops law t new now (stop.Rows table row reason) (_, so) ready g =
        (all_given t now (λ columns all. IsStopped plan bytes ended all row reason) g (so mode bytes ended (given ++ g.raws) (rows ++ g.more) g.holds), ready)
    text_stops law t new now (stop.Table table row reason) (_, so) ready g = (
      all_given t now (λ columns all. IsRefused plan columns bytes ended all row reason) g
          (so mode bytes ended (given ++ g.raws) (rows ++ g.more) g.holds),
      ready,
    )
    text_stops law t new now other so ready g = absurd so

    ready_on : (a b c : Outlets S) → IsAsReady is_open failed a.sink b.sink → IsAsReady is_open failed b.sink c.sink → IsAsReady is_open failed a.sink c.sink
    ready_on a b c f g = (g.0 ∙ f.0, g.1 ∙ f.1)

    -- a stop at the sink
    pub sink_stops : GivenFirst → (old mid new : Table) (now after : Outlets S) (row : Row) (reason : Stop) → Keeps old mid
        → Goes plan old mid (λ r. r ++ row ∷ []) → new ≡ record mid { faults = new.faults }
        → Gives gains cuts is_open failed (table_triples new.mode new.number new.head.columns (row ∷ [])) now.sink after.sink (Err reason)
        → IsAsReady is_open failed start.sink now.sink
        → Gone gains plan mode bytes ended given rows first old start now
        → TableOutcome gains cuts is_open failed plan mode bytes ended given rows first new start after (Err reason)
    sink_stops law old mid new now after row stop.Memory keeps goes same gave ready g =
        (row_cut law old mid new now after row ⊥ ⊥ (λ fails. fails) keeps goes same gave.0 g, ready_on start now after ready gave.1)
    sink_stops law old mid new now after row stop.Write keeps goes same gave ready g = (
      row_cut law old mid new now after row (is_open start.sink ≡ true) (is_open now.sink ≡ true) (λ begun. ready.0 ∙ begun) keeps goes same gave.0 g,
      gave.1,
      λ begun room. gave.2 (ready.0 ∙ begun) (rw ready.1 room) ∙ ap (λ n. n + 1) ready.1,
    )
    sink_stops law old mid new now after row other keeps goes same gave ready g = absurd gave

    -- a result that is a stop
    pub outcome_err : (new : Table) (now : Outlets S) (r : Result Unit Stop) (e f : Stop) → r ≡ Err e → e ≡ f
        → TableOutcome gains cuts is_open failed plan mode bytes ended given rows first new start now (Err f)
        → TableOutcome gains cuts is_open failed plan mode bytes ended given rows first new start now r
    outcome_err new now r e f p q so =
        subst (TableOutcome gains cuts is_open failed plan mode bytes ended given rows first new start now) (sym (p ∙ ap Err q)) so
