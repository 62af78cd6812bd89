-- How a table changes with a row of the source.
use Rattle.std.proofs.Common.{◌≡◌, ◌≢◌, ◌<◌, ◌≤◌, ◌+◌, ℕ, suc, Bool, List, [], ◌∷◌, ◌++◌, refl, sym, ap, ◌∙◌, subst, arith, map, length, take, drop}
use Rattle.std.proofs.Common.{Option, Some, None, inl, inr, Result, Ok, Err}
use Rattle.std.proofs.lemmas.List.{drop_all, drop-append-le}
use Rattle.csvw_fault.specs.declared.fault.Fault.{Fault}
use Rattle.csvw_rows.specs.GivenLaws.{GivenFirst}
use Rattle.csvw_records.specs.RowValue.{Given}
use Rattle.csvw_rows.specs.RowsState.{Gives as GivesRow, Stays, IsDone, IsStopped as RowsStopped, unread}
use Rattle.csvw_rows.specs.declared.rows.Rows.{Rows}
use Rattle.csvw_records.specs.declared.stop.RowStop.{RowStop}
use Rattle.csvw_records.specs.declared.stop.RowStop.TheVariants as row_stop
use Rattle.csvw_columns_core.specs.declared.columns.Columns.{Columns}
use Rattle.csvw_columns.specs.HeaderMatch.{IsMatch}
use Rattle.csvw_columns.specs.declared.plan.TablePlan.{TablePlan}
use Rattle.csvw_columns_core.specs.declared.table_stop.TableStop.{TableStop}
use Rattle.csvw_triples_core.specs.declared.mode.Mode.{Mode}
use Rattle.csvw_annotate.specs.HasForms.{HasForms}
use Rattle.csvw_annotate.specs.Annotated.{IsRow, AreCells, numbers_of}
use Rattle.csvw_annotate.specs.Linked.{each_linked, linked_in, values_of}
use Rattle.csvw_annotate.specs.declared.row.AnnCell.{AnnCell}
use Rattle.csvw_columns_core.specs.declared.column.Column.{Column}
use Rattle.csvw_annotate.specs.declared.row.Row.{Row}
use Rattle.csvw_engine_core.specs.Annotated.{header_count, header_row, data_rows, first_width, first_source, source_of, needed, Heads, IsHead}
use Rattle.csvw_engine_core.specs.Annotated.{HasRows, AreAnnotated, RefusesHeader, Refuses, GivesNone}
use Rattle.csvw_engine_core.specs.Stops.{of_row_stop}
use Rattle.csvw_engine_core.specs.Heads.{HeadHolds, IsNewHead, Settled, Settles, TakesHeader}
use Rattle.csvw_engine_core.specs.Tables.{max_rows, TableHolds, IsAtRest, IsStopped, IsRefused, StopsTable, Goes, Keeps, RowFits, Steps, is_ended}
use Rattle.csvw_engine_core.specs.Stepping.{AnnotatesRow, BeginsWrong, Begins}
use Rattle.csvw_engine_core.specs.declared.step.Step.TheVariants as step
use Rattle.csvw_engine_core.specs.declared.stop.Stop.{Stop}
use Rattle.csvw_engine_core.specs.declared.stop.Stop.TheVariants as stop
use Rattle.csvw_engine_core.specs.declared.head.Head.{Head}
use Rattle.csvw_engine_core.specs.declared.table.Table.{Table}
use Rattle.csvw_engine_core.specs.declared.step.Step.{Step}
use Rattle.csvw_engine_core.proofs.Headers.{length_more, needed_above, needed_positive, needed_is, head_on}

annotated_more : (columns : Columns) (raws : List Given) (rows : List Row) (raw : Given) (row : Row) → AreAnnotated columns raws rows → IsRow columns raw row
    → AreAnnotated columns (raws ++ raw ∷ []) (rows ++ row ∷ [])
annotated_more columns [] rows raw row h is = (row, [], ap (λ z. z ++ row ∷ []) h, is, refl)
annotated_more columns (r ∷ raws) rows raw row h is =
    (h.0, h.1 ++ row ∷ [], ap (λ z. z ++ row ∷ []) h.2, h.3, annotated_more columns raws h.1 raw row h.4 is)

module _ (plan : TablePlan) (given : List Given) (raw : Given) where
  -- a data row after the header
  pub rows_on : (columns : Columns) (rows : List Row) (row : Row) → needed (header_count plan) ≤ length given → IsRow columns raw row
      → AreAnnotated columns (data_rows plan given) rows → AreAnnotated columns (data_rows plan (given ++ raw ∷ [])) (rows ++ row ∷ [])
  rows_on columns rows row enough is h =
      let above : header_count plan ≤ length given = let k = needed_above (header_count plan) in omega arith in
      subst (λ z. AreAnnotated columns z (rows ++ row ∷ [])) (sym (drop-append-le (header_count plan) given (raw ∷ []) above))
      (annotated_more columns (data_rows plan given) rows raw row h is)

  -- a header row makes no row of the table
  pub rows_wait : (columns : Option Columns) (rows : List Row) → length given < needed (header_count plan) → 0 < header_count plan → rows ≡ []
      → HasRows plan columns (given ++ raw ∷ []) rows
  rows_wait None rows short some none = none
  rows_wait (Some columns) rows short some none =
      let within : length (given ++ raw ∷ []) ≤ header_count plan =
      let q = needed_is (header_count plan) some in let m = length_more given raw in omega arith in
      subst (λ z. AreAnnotated columns z rows) (sym (drop_all (header_count plan) (given ++ raw ∷ []) within)) none

-- a row has a cell for each column
pub cells_fit : (columns : List Column) (fields : List (List ℕ)) (cells : List AnnCell) → AreCells columns fields cells → length cells ≡ length columns
cells_fit [] fields cells h = ap length h
cells_fit (column ∷ columns) fields [] h = absurd h
cells_fit (column ∷ columns) [] (cell ∷ cells) h = ap (λ n. suc n) (cells_fit columns [] cells h.1)
cells_fit (column ∷ columns) (field ∷ fields) (cell ∷ cells) h = ap (λ n. suc n) (cells_fit columns fields cells h.1)

-- and so it has with links
linked_fit : (link : Column → AnnCell → AnnCell) (columns : List Column) (cells : List AnnCell) → length cells ≡ length columns
    → length (each_linked link columns cells) ≡ length columns
linked_fit link [] cells same = refl
linked_fit link (column ∷ columns) [] same = same
linked_fit link (column ∷ columns) (cell ∷ cells) same = ap (λ n. suc n) (linked_fit link columns cells (omega (arith, same)))

row_cells_fit : (columns : Columns) (raw : Given) (row : Row) → IsRow columns raw row → length row.cells ≡ length columns.columns
row_cells_fit columns raw row is =
    ap length is.cells
    ∙ linked_fit (linked_in columns (numbers_of raw) (values_of is.unlinked)) columns.columns is.unlinked
    (cells_fit columns.columns raw.fields is.unlinked is.says)

-- annotated rows have lexical forms
abbrev pub FormsLaw : Type 0
FormsLaw = (columns : Columns) (raw : Given) (row : Row) → IsRow columns raw row → HasForms row

pub row_fits : FormsLaw → (columns : Option Columns) (known : Columns) (row : Row) (raw : Given) → columns ≡ Some known → IsRow known raw row
    → RowFits columns row
row_fits forms columns known row raw e is = subst (λ z. RowFits z row) (sym e) (row_cells_fit known raw row is, forms known raw row is)

pub step_stops : (plan : TablePlan) (old new : Table) (r : Result Step Stop) (e f : Stop) → r ≡ Err e → e ≡ f → is_ended new ≡ is_ended old
    → StopsTable plan old f → Steps plan old new r
step_stops plan old new r e f p q ended so = subst (Steps plan old new) (sym (p ∙ ap Err q)) (ended, so)

no_rows : (given : List Given) → length given < 1 → given ≡ []
no_rows [] h = refl
no_rows (g ∷ given) h = absurd (omega arith)

-- the first data row of a table without header rows
first_head_at : (plan : TablePlan) (n : ℕ) (given : List Given) (raw : Given) (columns : Columns) (faults : List Fault) → header_count plan ≡ n
    → n ≡ 0 → given ≡ []
    → IsMatch plan [] (Some (length raw.fields)) columns faults → Heads plan (given ++ raw ∷ []) columns faults
first_head_at plan n given raw columns faults e z empty m =
    subst (λ g. Heads plan (g ++ raw ∷ []) columns faults) (sym empty)
    (subst (λ k. IsMatch plan (map header_row (take k (raw ∷ []))) (first_width k (raw ∷ [])) columns faults) (sym (e ∙ z)) m)

pub first_head : (plan : TablePlan) (given : List Given) (raw : Given) (old new : Head) → header_count plan ≡ 0 → HeadHolds plan old given → old.columns ≡ None
    → Settled plan (Some (length raw.fields)) old new → HeadHolds plan new (given ++ raw ∷ [])
first_head plan given raw old new without h none s =
    let k : IsHead plan given None old.faults = subst (λ z. IsHead plan given z old.faults) none h.known in
    let empty : given ≡ [] = no_rows given (subst (λ z. length given < needed z) without k.0) in
    let rows : old.rows ≡ [] = h.waits none ∙ ap (map header_row) empty in
    let gives : Heads plan (given ++ raw ∷ []) s.columns new.faults =
    first_head_at plan 0 given raw s.columns new.faults without refl empty
    (subst (λ z. IsMatch plan z (Some (length raw.fields)) s.columns new.faults) rows s.gives) in
    let enough : needed (header_count plan) ≤ length (given ++ raw ∷ []) =
    let q : needed (header_count plan) ≡ 1 = ap needed without in let m = length_more given raw in omega arith in
    record {
      known = subst (λ z. IsHead plan (given ++ raw ∷ []) z new.faults) (sym s.is) (enough, gives);
      waits = λ e. let wrong : None ≡ Some s.columns = sym e ∙ s.is in cc;
    }

pub first_row : (plan : TablePlan) (given : List Given) (raw : Given) (old : Head) (columns : Columns) (rows : List Row) (row : Row)
    → header_count plan ≡ 0 → HeadHolds plan old given → old.columns ≡ None
    → rows ≡ [] → IsRow columns raw row → AreAnnotated columns (data_rows plan (given ++ raw ∷ [])) (rows ++ row ∷ [])
first_row plan given raw old columns rows row without h none empty is =
    let k : IsHead plan given None old.faults = subst (λ z. IsHead plan given z old.faults) none h.known in
    let nothing : given ≡ [] = no_rows given (subst (λ z. length given < needed z) without k.0) in
    subst (λ g. AreAnnotated columns (data_rows plan (g ++ raw ∷ [])) (rows ++ row ∷ [])) (sym nothing)
    (subst (λ n. AreAnnotated columns (drop n (raw ∷ [])) (rows ++ row ∷ [])) (sym without) (row, [], ap (λ z. z ++ row ∷ []) empty, is, refl))

-- the table with one row of the reader more
module _ (plan : TablePlan) (old new : Table) (raw : Given) (gives : GivesRow old.rows new.rows raw) (same_number : new.number ≡ old.number)
    (same_mode : new.mode ≡ old.mode) where
  -- made of its parts
  holds_more : (mode : Mode) (bytes : List ℕ) (ended : Bool) (given : List Given) (rows more : List Row) → HeadHolds plan new.head (given ++ raw ∷ [])
      → HasRows plan new.head.columns (given ++ raw ∷ []) more
      → TableHolds plan mode old bytes ended given rows → TableHolds plan mode new bytes ended (given ++ raw ∷ []) more
  holds_more mode bytes ended given rows more head has h = record {
    number_is = same_number ∙ h.number_is;
    mode_is = same_mode ∙ h.mode_is;
    reader = gives plan.dialect max_rows bytes ended given h.reader;
    head = head;
    has = has;
  }

  -- a data row
  pub row_taken : (columns : Columns) (row : Row) → new.head ≡ old.head → old.head.columns ≡ Some columns → IsRow columns raw row
      → Goes plan old new (λ rows. rows ++ row ∷ [])
  row_taken columns row same known is mode bytes ended given rows h =
      let head : HeadHolds plan old.head (given ++ raw ∷ []) = head_on plan given raw old.head columns known h.head in
      let was : IsHead plan given (Some columns) old.head.faults = subst (λ z. IsHead plan given z old.head.faults) known h.head.known in
      let had : HasRows plan (Some columns) given rows = subst (λ z. HasRows plan z given rows) known h.has in
      let has : HasRows plan (Some columns) (given ++ raw ∷ []) (rows ++ row ∷ []) = rows_on plan given raw columns rows row was.0 is had in (
        raw,
        holds_more mode bytes ended given rows (rows ++ row ∷ []) (subst (λ z. HeadHolds plan z (given ++ raw ∷ [])) (sym same) head)
            (subst (λ z. HasRows plan z (given ++ raw ∷ []) (rows ++ row ∷ [])) (sym (ap (λ (z : Head). z.columns) same ∙ known)) has) h,
      )

  -- a header row
  pub header_taken : ((given : List Given) → HeadHolds plan old.head given → old.head.columns ≡ None → 0 < header_count plan
      → HeadHolds plan new.head (given ++ raw ∷ []))
      → old.head.columns ≡ None → 0 < header_count plan → Goes plan old new (λ rows. rows)
  header_taken takes none some mode bytes ended given rows h =
      let was : IsHead plan given None old.head.faults = subst (λ z. IsHead plan given z old.head.faults) none h.head.known in
      let empty : rows ≡ [] = subst (λ z. HasRows plan z given rows) none h.has in
      (raw, holds_more mode bytes ended given rows rows (takes given h.head none some) (rows_wait plan given raw new.head.columns rows was.0 some empty) h)

  -- the first data row of a table without header rows
  pub first_taken : (columns : Columns) (row : Row) → header_count plan ≡ 0 → old.head.columns ≡ None
      → Settled plan (Some (length raw.fields)) old.head new.head
      → new.head.columns ≡ Some columns → IsRow columns raw row → Goes plan old new (λ rows. rows ++ row ∷ [])
  first_taken columns row without none s known is mode bytes ended given rows h =
      let empty : rows ≡ [] = subst (λ z. HasRows plan z given rows) none h.has in (
        raw,
        holds_more mode bytes ended given rows (rows ++ row ∷ []) (first_head plan given raw old.head new.head without h.head none s)
            (subst (λ z. HasRows plan z (given ++ raw ∷ []) (rows ++ row ∷ [])) (sym known)
            (first_row plan given raw old.head columns rows row without h.head none empty is)) h,
      )

-- all rows were given, and there is no stop
pub nothing_taken : (plan : TablePlan) (old new : Table) → Stays old.rows new.rows → IsDone old.rows → new.head ≡ old.head → new.number ≡ old.number
    → new.mode ≡ old.mode
    → (mode : Mode) (bytes : List ℕ) (ended : Bool) (given : List Given) (rows : List Row) → TableHolds plan mode old bytes ended given rows
    → TableHolds plan mode new bytes ended given rows × IsAtRest plan bytes ended given
nothing_taken plan old new stays done head number same_mode mode bytes ended given rows h =
    let k = done plan.dialect max_rows bytes ended given h.reader in (
      record {
        number_is = number ∙ h.number_is;
        mode_is = same_mode ∙ h.mode_is;
        reader = stays plan.dialect max_rows bytes ended given h.reader;
        head = subst (λ z. HeadHolds plan z given) (sym head) h.head;
        has = subst (λ (z : Head). HasRows plan z.columns given rows) (sym head) h.has;
      },
      record { all = k.0; no_stop = k.1; whole = k.2 },
    )

-- a stop of the records
stopped : (plan : TablePlan) (old : Table) (stop : RowStop) (row : ℕ) → RowsStopped old.rows stop row → stop ≢ row_stop.Memory
    → (mode : Mode) (bytes : List ℕ) (ended : Bool) (given : List Given) (rows : List Row) → TableHolds plan mode old bytes ended given rows
    → IsStopped plan bytes ended given row stop
stopped plan old stop row is none mode bytes ended given rows h =
    let k = is none plan.dialect max_rows bytes ended given h.reader in record { all = k.0; stops = k.1 }

pub records_stopped : (plan : TablePlan) (old : Table) (stop : RowStop) (row : ℕ) → RowsStopped old.rows stop row
    → StopsTable plan old (of_row_stop plan.number row stop)
records_stopped plan old row_stop.Memory row is = tt
records_stopped plan old other row is = (refl, stopped plan old other row is (λ e. cc))

-- a row that the table refuses
module _ (plan : TablePlan) (old : Table) (new : Rows) (raw : Given) (gives : GivesRow old.rows new raw) (law : GivenFirst) where
  refused : (mode : Mode) (bytes : List ℕ) (ended : Bool) (given : List Given) (rows : List Row) (row : ℕ) (stop : TableStop)
      → Refuses plan given old.head.columns raw row stop
      → TableHolds plan mode old bytes ended given rows → IsRefused plan old.head.columns bytes ended given row stop
  refused mode bytes ended given rows row stop why h = record {
    raw = raw;
    first = law new plan.dialect max_rows bytes ended (given ++ raw ∷ []) (gives plan.dialect max_rows bytes ended given h.reader);
    refuses = why;
  }

  -- a data row
  pub row_refused : (columns : Columns) (reason : Stop) → old.head.columns ≡ Some columns → AnnotatesRow plan columns raw (Err reason)
      → StopsTable plan old reason
  row_refused columns stop.Memory known refusal = tt
  row_refused columns (stop.Table table row reason) known (own, refusal) = (
    own,
    λ mode bytes ended given rows h. refused mode bytes ended given rows row reason (subst (λ z. Refuses plan given z raw row reason) (sym known) refusal) h,
  )
  row_refused columns other known refusal = absurd refusal

  -- the last header row
  pub header_refused : (head : Head) (reason : Stop) → old.head.columns ≡ None → 0 < header_count plan
      → TakesHeader plan raw old.head head (Err reason) → StopsTable plan old reason
  header_refused head stop.Memory none some refusal = tt
  header_refused head (stop.Table table row reason) none some (own, refusal) = (
    own,
    λ mode bytes ended given rows h.
        let k = refusal given h.head none some in
        refused mode bytes ended given rows row reason
        (subst (λ z. Refuses plan given z raw row reason) (sym none) (k.0 ∙ sym (needed_is (header_count plan) some), inl (k.1, k.2))) h,
  )
  header_refused head other none some refusal = absurd refusal

  first_given : (given : List Given) → header_count plan ≡ 0 → HeadHolds plan old.head given → old.head.columns ≡ None → (given ≡ []) × (old.head.rows ≡ [])
  first_given given without h none =
      let k : IsHead plan given None old.head.faults = subst (λ z. IsHead plan given z old.head.faults) none h.known in
      let empty : given ≡ [] = no_rows given (subst (λ z. length given < needed z) without k.0) in
      (empty, h.waits none ∙ ap (map header_row) empty)

  -- the header that the first data row is, or this row
  pub first_refused : (reason : Stop) (head : Head) → old.head.columns ≡ None → header_count plan ≡ 0
      → Settles plan (Some (length raw.fields)) raw.source old.head head (Err reason) → StopsTable plan old reason
  first_refused stop.Memory head none without refusal = tt
  first_refused (stop.Table table row reason) head none without (own, gives_none, source) = (
    own,
    λ mode bytes ended given rows h.
        let k = first_given given without h.head none in
        let one : length given + 1 ≡ needed (header_count plan) = ap (λ (g : List Given). length g + 1) k.0 ∙ sym (ap needed without) in
        let why : RefusesHeader plan (given ++ raw ∷ []) reason =
        subst (λ g. RefusesHeader plan (g ++ raw ∷ []) reason) (sym k.0)
        (subst (λ n. GivesNone plan (map header_row (take n (raw ∷ []))) (first_width n (raw ∷ [])) reason) (sym without)
        (subst (λ z. GivesNone plan z (Some (length raw.fields)) reason) k.1 gives_none)) in
        let at : row ≡ first_source (given ++ raw ∷ []) =
        source ∙ (ap (λ z. source_of z raw.source) k.1 ∙ sym (ap (λ g. first_source (g ++ raw ∷ [])) k.0)) in
        refused mode bytes ended given rows row reason (subst (λ z. Refuses plan given z raw row reason) (sym none) (one, inl (why, at))) h,
  )
  first_refused other head none without refusal = absurd refusal

  pub first_row_refused : (columns : Columns) (reason : Stop) (head : Head) → old.head.columns ≡ None → header_count plan ≡ 0
      → Settled plan (Some (length raw.fields)) old.head head → head.columns ≡ Some columns
      → AnnotatesRow plan columns raw (Err reason) → StopsTable plan old reason
  first_row_refused columns stop.Memory head none without s known refusal = tt
  first_row_refused columns (stop.Table table row reason) head none without s known (own, refusal) = (
    own,
    λ mode bytes ended given rows h.
        let k = first_given given without h.head none in
        let one : length given + 1 ≡ needed (header_count plan) = ap (λ (g : List Given). length g + 1) k.0 ∙ sym (ap needed without) in
        let same : s.columns ≡ columns = let e : Some s.columns ≡ Some columns = sym s.is ∙ known in cc in
        let heads : Heads plan (given ++ raw ∷ []) columns head.faults =
        first_head_at plan 0 given raw columns head.faults without refl k.0
        (subst (λ z. IsMatch plan z (Some (length raw.fields)) columns head.faults) k.1
        (subst (λ z. IsMatch plan old.head.rows (Some (length raw.fields)) z head.faults) same s.gives)) in
        refused mode bytes ended given rows row reason
        (subst (λ z. Refuses plan given z raw row reason) (sym none) (one, inr (without, columns, head.faults, heads, refusal))) h,
  )
  first_row_refused columns other head none without s known refusal = absurd refusal

-- the table after a row that came before the columns were known
module _ (plan : TablePlan) (old new : Table) (raw : Given) (gives : GivesRow old.rows new.rows raw) (law : GivenFirst) (forms : FormsLaw)
    (none : old.head.columns ≡ None)
    (ended : is_ended new ≡ is_ended old) (less : unread new.rows < unread old.rows) (faults : new.faults ≡ old.faults)
    (number : new.number ≡ old.number) (mode : new.mode ≡ old.mode) where
  kept : Keeps old new
  kept = record {
    ended = ended;
    columns = λ columns e. let wrong : None ≡ Some columns = sym none ∙ e in cc;
    faults = faults;
    number = number;
    mode = mode;
  }

  begun_wrong : (reason : Stop) → BeginsWrong plan raw old.head new.head reason → StopsTable plan old reason
  begun_wrong reason (inl takes) = header_refused plan old new.rows raw gives law new.head reason none takes.0 takes.1
  begun_wrong reason (inr (inl settles)) = first_refused plan old new.rows raw gives law reason new.head none settles.0 settles.1
  begun_wrong reason (inr (inr first)) =
      first_row_refused plan old new.rows raw gives law first.columns reason new.head none first.without first.settled first.known first.annotates

  pub begun : (r : Result Step Stop) → Begins plan raw old.head new.head r → Steps plan old new r
  begun (Ok (step.Row row)) b = (
    kept,
    less,
    row_fits forms new.head.columns b.columns row raw b.known b.annotates,
    first_taken plan old new raw gives number mode b.columns row b.without none b.settled b.known b.annotates,
  )
  begun (Ok step.Header) b = (kept, less, header_taken plan old new raw gives number mode b.1 none b.0)
  begun (Ok step.Nothing) b = absurd b
  begun (Err reason) b = (ended, begun_wrong reason b)

-- nothing was read
pub head_at_start : (plan : TablePlan) (head : Head) → IsNewHead head → HeadHolds plan head []
head_at_start plan head is = record {
  known = subst (λ z. IsHead plan [] z head.faults) (sym is.columns) ((let k = needed_positive (header_count plan) in omega arith), is.faults);
  waits = λ e. is.rows;
}

pub rows_at_start : (plan : TablePlan) (head : Head) → IsNewHead head → HasRows plan head.columns [] []
rows_at_start plan head is = subst (λ z. HasRows plan z [] []) (sym is.columns) refl
