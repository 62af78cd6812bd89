-- A group is valid exactly if none of its violations is an error.
use Rattle.std.proofs.Common.{◌≡◌, ◌≤◌, ℕ, zero, suc, true, List, [], ◌∷◌, ◌++◌, refl, sym, ap, subst, arith, All, flat_map, length, Some, None}
use Rattle.std.specs.Prelude.{slice_get}
use Rattle.std.specs.List.Sorted.{IsPermutation}
use Rattle.std.proofs.lemmas.Bool.{and_parts, and_from}
use Rattle.std.proofs.lemmas.List.Elements.{All-cons, All-head, All-nil, All-tail}
use Rattle.std.proofs.lemmas.List.Sorted.{All-permutation, IsPermutation-sym}
use Rattle.csvw_fault.specs.declared.fault.Fault.{Fault}
use Rattle.csvw_records.specs.Files.{Row as FileRow, Body}
use Rattle.csvw_records.specs.ListLaws.{HaveOneList}
use Rattle.csvw_records.specs.RowValue.{Given}
use Rattle.csvw_columns_core.specs.declared.column.Column.{Column}
use Rattle.csvw_columns_core.specs.declared.columns.Columns.{Columns}
use Rattle.csvw_columns.specs.declared.plan.Plan.{Plan}
use Rattle.csvw_columns.specs.declared.plan.TablePlan.{TablePlan}
use Rattle.csvw_annotate.specs.Annotated.{AreCells, IsRow}
use Rattle.csvw_annotate.specs.Linked.{each_linked}
use Rattle.csvw_annotate.specs.declared.row.AnnCell.{AnnCell}
use Rattle.csvw_annotate.specs.declared.row.Row.{Row}
use Rattle.csvw_keys.specs.KeyRules.{key_faults, rules_of}
use Rattle.csvw_engine_core.specs.Annotated.{AreAnnotated as AreRows, header_count, header_rows}
use Rattle.csvw_engine_core.specs.Faults.{row_faults, table_faults}
use Rattle.csvw_engine_core.specs.Tables.{max_rows}
use Rattle.csvw_report.specs.Order.{is_no_error}
use Rattle.csvw_columns.specs.Ready.{AreReady}
use Rattle.csvw_columns.specs.Ready.{IsReady}
use Rattle.csvw_group_laws.specs.Annotated.{Table, AreAnnotated, IsAnnotated}
use Rattle.csvw_group_laws.specs.Violations.{AreViolations, rows_of, table_violations, tables_violations, violations}
use Rattle.csvw_validity_laws.specs.Validity.{HasHeader, IsSoundRow, IsValid, IsValidTable}
use Rattle.csvw_validity_laws.proofs.Headers.{has_header, quiet_header}
use Rattle.csvw_validity_laws.proofs.KeysQuiet.{all_kept, all_quiet}
use Rattle.csvw_validity_laws.proofs.Quiet.{Quiet, cells_clear, cells_quiet, quiet_join, quiet_parts}

abbrev IsNoError : Fault → Type 0
IsNoError fault = is_no_error fault ≡ true

each_quiet : (faults : List Fault) → Quiet faults → All IsNoError faults
each_quiet [] q = All-nil IsNoError
each_quiet (f ∷ fs) q =
    let both = and_parts _ _ q in
    All-cons IsNoError f fs both.0 (each_quiet fs both.1)

all_so : (faults : List Fault) → All IsNoError faults → Quiet faults
all_so [] all = refl
all_so (f ∷ fs) all = and_from _ _ (All-head IsNoError f fs all) (all_so fs (All-tail IsNoError f fs all))

pub shuffled : (faults others : List Fault) → IsPermutation faults others → Quiet faults → Quiet others
shuffled faults others same q = all_so others (All-permutation IsNoError faults others same (each_quiet faults q))

-- rows have no more cells than there are columns
no_more : (columns : List Column) (fields : List (List ℕ)) (cells : List AnnCell) → AreCells columns fields cells → length cells ≤ length columns
no_more [] fields cells are = subst (λ cs. length cs ≤ 0) (sym are) (omega arith)
no_more (c ∷ cs) fields [] are = absurd are
no_more (c ∷ cs) [] (cell ∷ cells) are =
    let rest = no_more cs [] cells are.1 in
    omega (arith, rest)
no_more (c ∷ cs) (field ∷ fields) (cell ∷ cells) are =
    let rest = no_more cs fields cells are.1 in
    omega (arith, rest)

linked_no_more : (link : Column → AnnCell → AnnCell) (columns : List Column) (cells : List AnnCell) → length cells ≤ length columns
    → length (each_linked link columns cells) ≤ length columns
linked_no_more link [] cells few = omega arith
linked_no_more link (c ∷ cs) [] few = omega arith
linked_no_more link (c ∷ cs) (cell ∷ cells) few =
    let rest = linked_no_more link cs cells (omega (arith, few)) in
    omega (arith, rest)

few_cells : (columns : Columns) (raw : Given) (row : Row) → IsRow columns raw row → length row.cells ≤ length columns.columns
few_cells columns raw row is =
    subst (λ cells. length cells ≤ length columns.columns) (sym is.cells)
    (linked_no_more _ columns.columns is.unlinked (no_more columns.columns raw.fields is.unlinked is.says))

module _ (table : ℕ) (columns : Columns) where
  abbrev at : Row → List Fault
  at row = row_faults table columns.columns row

  pub sound_rows : (given : List Given) (rows : List Row) → AreRows columns given rows → Quiet (flat_map at rows) → All IsSoundRow rows
  sound_rows [] rows are q = subst (λ rs. All IsSoundRow rs) (sym are) (All-nil IsSoundRow)
  sound_rows (raw ∷ raws) rows are q =
      let row = are.0 in
      let rest = are.1 in
      let both = quiet_parts (at row) (flat_map at rest) (subst (λ rs. Quiet (flat_map at rs)) are.2 q) in
      subst (λ rs. All IsSoundRow rs) (sym are.2)
      (All-cons IsSoundRow row rest
      (cells_clear table row columns.columns row.cells (few_cells columns raw row are.3) both.0)
      (sound_rows raws rest are.4 both.1))

  pub quiet_rows : (rows : List Row) → All IsSoundRow rows → Quiet (flat_map at rows)
  quiet_rows [] all = refl
  quiet_rows (row ∷ rows) all =
      quiet_join (at row) (flat_map at rows) (cells_quiet table row columns.columns row.cells (All-head IsSoundRow row rows all))
      (quiet_rows rows (All-tail IsSoundRow row rows all))

module _ (one : HaveOneList) (plan : TablePlan) (ready : IsReady plan) (text : List ℕ) (table : Table) (annotated : IsAnnotated plan text table) where
  abbrev IsHeaded : List FileRow → Type 0
  IsHeaded file = HasHeader (header_count plan) table.columns.columns (header_rows plan (Body plan.dialect file))

  given_header : Quiet table.header_faults → IsHeaded annotated.file
  given_header q =
      let head = annotated.whole.head in
      let columns_are = ap (λ columns. columns.columns) head.columns in
      subst (λ columns. HasHeader (header_count plan) columns (header_rows plan (Body plan.dialect annotated.file))) (sym columns_are)
      (has_header plan.number _ (header_rows plan (Body plan.dialect annotated.file)) (header_count plan) (subst (λ faults. Quiet faults) head.faults q))

  header_quiet : IsHeaded annotated.file → Quiet table.header_faults
  header_quiet has =
      let head = annotated.whole.head in
      let columns_are = ap (λ columns. columns.columns) head.columns in
      subst (λ faults. Quiet faults) (sym head.faults)
      (quiet_header plan.number _ (header_rows plan (Body plan.dialect annotated.file)) (header_count plan)
      (subst (λ columns. HasHeader (header_count plan) columns (header_rows plan (Body plan.dialect annotated.file))) columns_are has))

  pub valid_table : Quiet (table_violations plan table) → IsValidTable plan text table
  valid_table q =
      let both = quiet_parts table.header_faults (table_faults plan.number (Some table.columns) table.rows) q in
      record {
        file = annotated.file;
        is_file = annotated.is_file;
        header = given_header both.0;
        cells = sound_rows plan.number table.columns _ table.rows annotated.whole.has both.1;
      }

  pub table_quiet : IsValidTable plan text table → Quiet (table_violations plan table)
  table_quiet valid =
      quiet_join table.header_faults (table_faults plan.number (Some table.columns) table.rows)
      (header_quiet (subst IsHeaded (one plan.dialect max_rows text valid.file annotated.file ready.dialect valid.is_file annotated.is_file) valid.header))
      (quiet_rows plan.number table.columns table.rows valid.cells)

-- what holds of the table of each plan, at each place from 0
abbrev EachTable : (ℕ → TablePlan → Table → Type 0) → List TablePlan → List Table → Type 0
EachTable P plans tables = (i : ℕ) (plan : TablePlan) (table : Table) → slice_get plans i ≡ Some plan → slice_get tables i ≡ Some table → P i plan table

no_item : {X : Type 0} (x : X) → None ≡ Some x → ⊥
no_item x e = cc

same_item : {X : Type 0} (x y : X) → Some x ≡ Some y → x ≡ y
same_item x y e = cc

abbrev QuietTable : ℕ → TablePlan → Table → Type 0
QuietTable i plan table = Quiet (table_violations plan table)

each_table_quiet : (plans : List TablePlan) (tables : List Table) → Quiet (tables_violations plans tables) → EachTable QuietTable plans tables
each_table_quiet [] tables q i plan table e f = absurd (no_item plan e)
each_table_quiet (p ∷ ps) [] q i plan table e f = absurd (no_item table f)
each_table_quiet (p ∷ ps) (t ∷ ts) q zero plan table e f =
    let both = quiet_parts (table_violations p t) (tables_violations ps ts) q in
    subst (λ x. Quiet (table_violations x table)) (same_item p plan e) (subst (λ x. Quiet (table_violations p x)) (same_item t table f) both.0)
each_table_quiet (p ∷ ps) (t ∷ ts) q (suc i) plan table e f =
    each_table_quiet ps ts (quiet_parts (table_violations p t) (tables_violations ps ts) q).1 i plan table e f

tables_quiet : (plans : List TablePlan) (tables : List Table) → EachTable QuietTable plans tables → Quiet (tables_violations plans tables)
tables_quiet [] tables each = refl
tables_quiet (p ∷ ps) [] each = refl
tables_quiet (p ∷ ps) (t ∷ ts) each =
    quiet_join (table_violations p t) (tables_violations ps ts) (each 0 p t refl refl)
    (tables_quiet ps ts (λ i plan table e f. each (suc i) plan table e f))

ready_at : (plans : List TablePlan) (i : ℕ) (plan : TablePlan) → AreReady plans → slice_get plans i ≡ Some plan → IsReady plan
ready_at [] i plan are e = absurd (no_item plan e)
ready_at (p ∷ ps) zero plan are e = subst IsReady (same_item p plan e) are.0
ready_at (p ∷ ps) (suc i) plan are e = ready_at ps i plan are.1 e

module _ (one : HaveOneList) (plan : Plan) (texts : ℕ → List ℕ) (tables : List Table) (faults : List Fault) (ready : AreReady plan.tables)
    (warned : Quiet plan.warnings) (annotated : AreAnnotated plan.tables texts tables) (are : AreViolations plan tables faults) where
  pub valid_without_errors : Quiet faults → IsValid plan texts tables
  valid_without_errors q =
      let all = shuffled faults (violations plan tables) (IsPermutation-sym (violations plan tables) faults are.same) q in
      let parts = quiet_parts (plan.warnings ++ tables_violations plan.tables tables) (key_faults (rules_of plan) (rows_of tables)) all in
      let own = quiet_parts plan.warnings (tables_violations plan.tables tables) parts.0 in
      record {
        each = λ i p table e f. valid_table one p (ready_at plan.tables i p ready e) (texts i) table (annotated.each i p table e f)
            (each_table_quiet plan.tables tables own.1 i p table e f);
        keys = all_kept (rows_of tables) (rules_of plan) parts.1;
      }

  pub no_errors_where_valid : IsValid plan texts tables → Quiet faults
  no_errors_where_valid valid =
      shuffled (violations plan tables) faults are.same
      (quiet_join (plan.warnings ++ tables_violations plan.tables tables) (key_faults (rules_of plan) (rows_of tables))
      (quiet_join plan.warnings (tables_violations plan.tables tables) warned
      (tables_quiet plan.tables tables (λ i p table e f.
      table_quiet one p (ready_at plan.tables i p ready e) (texts i) table (annotated.each i p table e f) (valid.each i p table e f))))
      (all_quiet (rows_of tables) (rules_of plan) valid.keys))
