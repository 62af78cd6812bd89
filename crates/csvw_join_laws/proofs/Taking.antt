-- The rows that a piece gives after the rows before it are its rows of the annotated table.
use Rattle.std.proofs.Common.{◌≡◌, ◌∙◌, ℕ, zero, suc, List, [], ◌∷◌, Option, Some, None, refl, sym, ap, subst, arith, inl, inr, take}
use Rattle.std.specs.Prelude.{slice_get}
use Rattle.csvw_annotate.specs.declared.row.Row.{Row}
use Rattle.csvw_columns.specs.Ready.{IsReady}
use Rattle.csvw_columns.specs.declared.plan.TablePlan.{TablePlan}
use Rattle.csvw_columns_core.specs.declared.columns.Columns.{Columns}
use Rattle.csvw_engine_core.specs.Annotated.{IsTable, IsWholeTable}
use Rattle.csvw_engine_core.specs.Tables.{max_rows}
use Rattle.csvw_fault.specs.declared.fault.Fault.{Fault}
use Rattle.csvw_group_laws.specs.Annotated.{AreAnnotated, IsAnnotated, Table}
use Rattle.csvw_group_laws.specs.OneTable.{HaveOneAnnotation}
use Rattle.csvw_part_laws.specs.Parts.{NumbersGoOn, RowsOfParts}
use Rattle.csvw_part_plan.specs.declared.piece.Piece.{Piece}
use Rattle.csvw_parts.specs.PieceRows.{AreAllRows, AreRowsTo}
use Rattle.csvw_records.specs.Files.{Body, File}
use Rattle.csvw_records.specs.Files.{Row as FileRow}
use Rattle.csvw_records.specs.ListLaws.{HaveOneList}
use Rattle.csvw_join_laws.specs.Finding.{FindRows, IsFound}
use Rattle.csvw_join_laws.specs.PlanPieces.{IsTableBefore}
use Rattle.csvw_join_laws.proofs.Places.{front_file}

abbrev table_of : Columns → List Fault → List Row → Table
table_of columns faults rows = record { columns = columns; header_faults = faults; rows = rows }

alone : (plan : TablePlan) (text : List ℕ) (table : Table) → IsAnnotated plan text table → AreAnnotated (plan ∷ []) (λ i. text) (table ∷ [])
alone plan text table is = record { many = refl; each = each }
  where
    each : (i : ℕ) (p : TablePlan) (t : Table) → slice_get (plan ∷ []) i ≡ Some p → slice_get (table ∷ []) i ≡ Some t → IsAnnotated p text t
    each zero p t a b =
        let same_plan : plan ≡ p = cc in
        let same_table : table ≡ t = cc in
        subst (λ q. IsAnnotated q text t) same_plan (subst (IsAnnotated plan text) same_table is)
    each (suc i) p t a b = cc

module _ (one_list : HaveOneList) (one_annotation : HaveOneAnnotation) (rows_of_parts : RowsOfParts) (go_on : NumbersGoOn) (plan : TablePlan)
    (ready : IsReady plan) (table : Table) (text : List ℕ) (are : IsAnnotated plan text table) where
  found_is : (bytes : List ℕ) (a b : Table) → IsAnnotated plan bytes a → IsAnnotated plan bytes b → a ≡ b
  found_is bytes a b x y =
      let both = one_annotation (plan ∷ []) (λ i. bytes) (λ i. bytes) (a ∷ []) (b ∷ []) (ready, tt) (λ i. refl) (alone plan bytes a x) (alone plan bytes b y) in
      cc

  to_next : (q : Piece) → IsTableBefore plan table text q → (columns : Option Columns) (faults : List Fault) (rows : List Row)
      → AreRowsTo plan (take q.first_byte text) columns faults rows q
      → IsFound table columns faults rows (take q.data_rows_before table.rows)
  to_next q before columns faults rows to =
      let d = plan.dialect in
      let bytes = take q.first_byte text in
      let count = before.rows in
      let some = before.whole.some in
      let here = to.ends (omega (arith, count, some)) in
      let file = front_file rows_of_parts go_on plan text q.first_byte before.front are.file ready.dialect before.whole are.is_file in
      let few = file.limits.0 in
      let counted = here.count in
      let mine : File d max_rows bytes here.whole = record {
        is_utf8 = here.are_rows.is_utf8;
        are_rows = inl here.are_rows.are_rows;
        limits = (omega (arith, few, counted, count), here.are_rows.short);
      } in
      let same = one_list d max_rows bytes here.whole before.front ready.dialect mine file in
      let body : to.given ≡ Body d before.front = sym here.body ∙ ap (Body d) same in
      by_columns columns before.front (subst (λ g. IsTable plan g columns faults rows) body to.table) file before.annotated bytes
    where
      by_columns : (columns : Option Columns) (front : List FileRow) → IsTable plan (Body plan.dialect front) columns faults rows
          → File plan.dialect max_rows (take q.first_byte text) front
          → IsTable plan (Body plan.dialect front) (Some table.columns) table.header_faults (take q.data_rows_before table.rows) → List ℕ
          → IsFound table columns faults rows (take q.data_rows_before table.rows)
      by_columns None front is file full bytes = let few = is.head.0 in let enough = full.head.0 in absurd (omega arith)
      by_columns (Some c) front is file full bytes =
          let mine : IsAnnotated plan (take q.first_byte text) (table_of c faults rows) =
          record { file = front; is_file = file; whole = record { head = is.head.1; has = is.has } } in
          let theirs : IsAnnotated plan (take q.first_byte text) (table_of table.columns table.header_faults (take q.data_rows_before table.rows)) =
          record { file = front; is_file = file; whole = record { head = full.head.1; has = full.has } } in
          let same = found_is (take q.first_byte text) _ _ mine theirs in
          record { columns_are = ap (λ t. Some t.columns) same; faults_are = ap (λ t. t.header_faults) same; rows_are = ap (λ t. t.rows) same }

  to_end : (columns : Option Columns) (faults : List Fault) (rows : List Row) → AreAllRows plan text columns faults rows
      → IsFound table columns faults rows table.rows
  to_end columns faults rows all = elim all.at_rest.all.is_front [
    | inl whole ↦
        let has = subst (λ g. IsWholeTable plan g all.known faults rows) all.at_rest.all.all all.table in
        let mine : IsAnnotated plan text (table_of all.known faults rows) = record { file = all.at_rest.all.front; is_file = whole.1; whole = has } in
        let same = found_is text _ _ mine are in
        record {
          columns_are = all.columns_are ∙ ap (λ t. Some t.columns) same;
          faults_are = ap (λ t. t.header_faults) same;
          rows_are = ap (λ t. t.rows) same;
        }
    | inr none ↦ absurd (none.0 refl are.file are.is_file)
  ]

pub find_rows : HaveOneList → HaveOneAnnotation → RowsOfParts → NumbersGoOn → FindRows
find_rows one_list one_annotation rows_of_parts go_on = record {
  to_next = λ plan text table q columns faults rows ready are before to.
      to_next one_list one_annotation rows_of_parts go_on plan ready table text are q before columns faults rows to;
  to_end = λ plan text table columns faults rows ready are all.
      to_end one_list one_annotation rows_of_parts go_on plan ready table text are columns faults rows all;
}
