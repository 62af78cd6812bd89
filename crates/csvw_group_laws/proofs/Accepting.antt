-- A text that begins an annotated table, or is one, neither stops nor is refused.
use Rattle.std.proofs.Common.{◌≡◌, ◌≤◌, ◌+◌, ℕ, Bool, true, false, List, [], ◌∷◌, ◌++◌, refl, sym, ap, ◌∙◌, subst, arith, inl, inr, append_assoc}
use Rattle.std.proofs.Common.{append-nil, length, length-append, drop, Option, Some, None}
use Rattle.std.proofs.lemmas.List.{drop-append-le}
use Rattle.csvw_fault.specs.declared.fault.Fault.{Fault}
use Rattle.csvw_records.specs.declared.dialect.Dialect.{Dialect}
use Rattle.csvw_records.specs.Lawful.{IsLawful}
use Rattle.csvw_records.specs.Files.{Row as FileRow, File, Body}
use Rattle.csvw_records.specs.FirstRows.{AreFirst, ComeFirst}
use Rattle.csvw_records.specs.ListLaws.{FilesHaveNoStop, FirstBegin, FirstStay, HaveOneList}
use Rattle.csvw_records.specs.RowValue.{Given}
use Rattle.csvw_records.specs.declared.stop.RowStop.{RowStop}
use Rattle.csvw_columns_core.specs.declared.columns.Columns.{Columns}
use Rattle.csvw_columns.specs.declared.plan.TablePlan.{TablePlan}
use Rattle.csvw_columns_core.specs.declared.table_stop.TableStop.{TableStop}
use Rattle.csvw_columns_core.specs.declared.table_stop.TableStop.TheVariants as table_stop
use Rattle.csvw_annotate.specs.Annotated.{Fits}
use Rattle.csvw_annotate.specs.declared.row.Row.{Row}
use Rattle.csvw_engine_core.specs.Annotated.{AreAnnotated, Heads, IsTable, IsWholeTable, Refuses, RefusesFirst, RefusesHeader, header_count, needed}
use Rattle.csvw_engine_core.specs.Tables.{IsAtRest, IsRefused, IsStopped, max_rows}
use Rattle.csvw_session.specs.Sessions.{IsRefusedHere}
use Rattle.csvw_group_laws.specs.Annotated.{Table}
use Rattle.csvw_group_laws.specs.GoodTexts.{GoesOnToTable, GoodTextsAreAccepted}
use Rattle.csvw_group_laws.proofs.Bodies.{body_begins}
use Rattle.csvw_group_laws.proofs.Ending.{file_of}
use Rattle.csvw_group_laws.proofs.Headers.{columns_same, enough, heads_of_first}

-- a header that makes columns is not refused
header_stands : (plan : TablePlan) (given : List Given) (columns : Columns) (faults : List Fault) (stop : TableStop) → Heads plan given columns faults
    → RefusesHeader plan given stop → ⊥
header_stands plan given columns faults table_stop.TooManyColumns h refused = refused h.within
header_stands plan given columns faults table_stop.DuplicateName h refused = refused.names h.names
header_stands plan given columns faults table_stop.RaggedRow h refused = refused
header_stands plan given columns faults table_stop.Memory h refused = refused

-- a row that is annotated among others has a field for each column that isn't virtual
fits_among : (columns : Columns) (front rest : List Given) (raw : Given) (rows : List Row) → AreAnnotated columns (front ++ raw ∷ rest) rows → Fits columns raw
fits_among columns [] rest raw rows h = h.3.fits
fits_among columns (x ∷ front) rest raw rows h = fits_among columns front rest raw h.1 h.4

-- the data rows of these rows, one more and others
module _ (plan : TablePlan) (given rest : List Given) (raw : Given) (whole : Columns) (header_faults : List Fault) (rows : List Row)
    (is : IsWholeTable plan (given ++ raw ∷ rest) whole header_faults rows) where
  fits_next : header_count plan ≤ length given → Fits whole raw
  fits_next within =
      fits_among whole (drop (header_count plan) given) rest raw rows
      (subst (λ raws. AreAnnotated whole raws rows) (drop-append-le (header_count plan) given (raw ∷ rest) within) is.has)

  not_refused_first : (row : ℕ) (stop : TableStop) → length given + 1 ≡ needed (header_count plan) → RefusesFirst plan given raw row stop → ⊥
  not_refused_first row stop count refuses = elim refuses [
    | inl header ↦ header_stands plan (given ++ raw ∷ []) whole header_faults stop head header.0
    | inr ragged ↦ ragged.4.ragged
        (subst (λ c. Fits c raw) (head.columns ∙ sym ragged.3.columns)
        (fits_next (let none = ragged.0 in omega (arith, none))))
  ]
    where
      head : Heads plan (given ++ raw ∷ []) whole header_faults
      head =
          heads_of_first plan (given ++ raw ∷ []) rest whole header_faults (omega (arith, count, length-append given (raw ∷ [])))
          (subst (λ raws. Heads plan raws whole header_faults) (sym (append_assoc given (raw ∷ []) rest)) is.head)

  not_refused_next : (columns : Option Columns) (faults : List Fault) (before : List Row) (row : ℕ) (stop : TableStop)
      → IsTable plan given columns faults before → Refuses plan given columns raw row stop → ⊥
  not_refused_next None faults before row stop h refuses = not_refused_first row stop refuses.0 refuses.1
  not_refused_next (Some own) faults before row stop h refuses =
      let same : own ≡ whole = columns_same plan given (raw ∷ rest) own whole faults header_faults h.head.0 h.head.1 is.head in
      refuses.ragged (subst (λ c. Fits c raw) (sym same) (fits_next (enough (header_count plan) (length given) h.head.0)))

-- a text so far, and the text after it
module _ (one_list : HaveOneList) (first_begin : FirstBegin) (first_stay : FirstStay) (no_stop : FilesHaveNoStop) (plan : TablePlan)
    (lawful : IsLawful plan.dialect) (bytes : List ℕ) (last : Bool) (is : GoesOnToTable plan bytes last) where
  abbrev d : Dialect
  d = plan.dialect

  abbrev all : List ℕ
  all = bytes ++ is.more

  abbrev table : Table
  table = is.table

  abbrev file : List FileRow
  file = is.annotated.file

  all_of : is.more ≡ [] → all ≡ bytes
  all_of none = ap (λ l. bytes ++ l) none ∙ append-nil bytes

  come_first : (ended : Bool) (rows : List FileRow) → (ended ≡ true → is.more ≡ []) → ComeFirst d max_rows bytes ended rows → ComeFirst d max_rows all true rows
  come_first false rows none come = first_stay d max_rows bytes is.more true rows come
  come_first true rows none come = subst (λ b. ComeFirst d max_rows b true rows) (sym (all_of (none refl))) come

  -- rows that come first begin the rows of the file
  begins : (ended : Bool) (given : List Given) → (ended ≡ true → is.more ≡ []) → AreFirst d max_rows bytes ended given
      → (rest : List Given) × (Body d file ≡ given ++ rest)
  begins ended given none first =
      let rows = first_begin d max_rows all true first.rows file lawful (come_first ended first.rows none first.come) (inl (refl, is.annotated.is_file)) in
      let body = body_begins d first.rows rows.0 in
      (body.0, ap (Body d) rows.1 ∙ body.1 ∙ ap (λ l. l ++ body.0) (sym first.all))

  not_refused : (ended : Bool) (given : List Given) (columns : Option Columns) (faults : List Fault) (rows : List Row) (row : ℕ) (stop : TableStop)
      → (ended ≡ true → is.more ≡ []) → IsTable plan given columns faults rows → IsRefused plan columns bytes ended given row stop → ⊥
  not_refused ended given columns faults rows row stop none h refused =
      let b = begins ended (given ++ refused.raw ∷ []) none refused.first in
      let parted : Body d file ≡ given ++ refused.raw ∷ b.0 = b.1 ∙ append_assoc given (refused.raw ∷ []) b.0 in
      not_refused_next plan given b.0 refused.raw table.columns table.header_faults table.rows
      (subst (λ raws. IsWholeTable plan raws table.columns table.header_faults table.rows) parted is.annotated.whole)
      columns faults rows row stop h refused.refuses

  -- the rows of a text that ended without a stop are all rows of the file
  all_rows : (given : List Given) → is.more ≡ [] → IsAtRest plan bytes true given → given ≡ Body d file
  all_rows given none rest =
      let whole = file_of d max_rows bytes rest.all.front rest.all.is_front (rest.whole refl) in
      rest.all.all ∙ ap (Body d)
      (one_list d max_rows bytes rest.all.front file lawful whole (subst (λ b. File d max_rows b file) (all_of none) is.annotated.is_file))

  not_refused_here : (given : List Given) (columns : Option Columns) (faults : List Fault) (rows : List Row) (row : ℕ) (stop : TableStop)
      → IsTable plan given columns faults rows → IsRefusedHere plan columns bytes last given row stop → ⊥
  not_refused_here given columns faults rows row stop h (inl refused) = not_refused last given columns faults rows row stop is.none_left h refused
  not_refused_here given columns faults rows row stop h (inr (e, inl refused)) =
      not_refused true given columns faults rows row stop (λ own. is.none_left e) h refused
  not_refused_here given columns faults rows row stop h (inr (e, inr (rest, none, refused))) =
      header_stands plan (Body d file) table.columns table.header_faults stop is.annotated.whole.head
      (subst (λ raws. RefusesHeader plan raws stop) (all_rows given (is.none_left e) rest) refused.refused)

  not_stopped : (given : List Given) (row : ℕ) (stop : RowStop) → IsStopped plan bytes last given row stop → ⊥
  not_stopped given row stop stopped = no_stop d max_rows bytes is.more last file stop row lawful is.none_left is.annotated.is_file stopped.stops

pub are_accepted : HaveOneList → FirstBegin → FirstStay → FilesHaveNoStop → GoodTextsAreAccepted
are_accepted one_list first_begin first_stay no_stop = record {
  stops = λ plan bytes ended given row stop lawful is stopped.
      not_stopped one_list first_begin first_stay no_stop plan lawful bytes ended is given row stop stopped;
  refuses = λ plan bytes ended given columns faults rows row stop lawful is h refused.
      not_refused_here one_list first_begin first_stay no_stop plan lawful bytes ended is given columns faults rows row stop h refused;
}
