-- Texts are at most one list of annotated tables.
use Rattle.std.proofs.Common.{◌≡◌, ℕ, suc, List, [], ◌∷◌, refl, sym, ap, ◌∙◌, subst, arith, Option}
use Rattle.csvw_fault.specs.declared.fault.Code.{Code}
use Rattle.csvw_datatype.specs.Formats.{IsFormatOf}
use Rattle.csvw_datatype.specs.Reads.{ReadsAs, MisreadAs}
use Rattle.csvw_datatype.specs.Sound.{IsSound}
use Rattle.csvw_datatype.specs.declared.format.Format.{Format}
use Rattle.csvw_datatype.specs.declared.simple.Simple.{Simple}
use Rattle.csvw_datatype.specs.declared.value.Value.{Value}
use Rattle.csvw_records.specs.Files.{Row as FileRow, Body}
use Rattle.csvw_records.specs.ListLaws.{HaveOneList}
use Rattle.csvw_records.specs.RowValue.{Given}
use Rattle.csvw_cell.specs.declared.cell.Cell.{Cell}
use Rattle.csvw_columns_core.specs.declared.column.Column.{Column}
use Rattle.csvw_columns_core.specs.declared.columns.Columns.{Columns}
use Rattle.csvw_columns_core.specs.Sound.{AreSound}
use Rattle.csvw_columns_core.specs.declared.header.HeaderRow.{HeaderRow}
use Rattle.csvw_columns.specs.HeaderMatch.{columns_of}
use Rattle.csvw_columns.specs.Ready.{IsReady}
use Rattle.csvw_columns.specs.declared.plan.TablePlan.{TablePlan}
use Rattle.csvw_annotate.specs.Annotated.{IsCell, AreCells, IsRow, numbers_of}
use Rattle.csvw_annotate.specs.Linked.{linked_cells}
use Rattle.csvw_annotate.specs.declared.row.AnnCell.{AnnCell}
use Rattle.csvw_annotate.specs.declared.row.Row.{Row}
use Rattle.csvw_engine_core.specs.Annotated.{AreAnnotated as RowsAreAnnotated, IsWholeTable, header_count, header_rows, data_rows, first_width}
use Rattle.csvw_engine_core.specs.Tables.{max_rows}
use Rattle.csvw_group_laws.specs.Annotated.{Table, IsAnnotated, AreAnnotated}
use Rattle.csvw_group_laws.specs.OneTable.{HaveOneAnnotation}
use Rattle.csvw_group_laws.proofs.OneCell.{cell_is_one}

module _ (sound_columns : (plan : TablePlan) (rows : List HeaderRow) (width : Option ℕ) → IsReady plan → AreSound (columns_of plan rows width))
    (one_value : (s : Simple) (f : Option Format) (text : List ℕ) (v w : Value) → IsFormatOf s f → ReadsAs s f text v → ReadsAs s f text w → v ≡ w)
    (value_or_code : (s : Simple) (f : Option Format) (text : List ℕ) (v : Value) (code : Code) → IsFormatOf s f → ReadsAs s f text v
    → ¬ MisreadAs s f text code)
    (one_code : (s : Simple) (f : Option Format) (text : List ℕ) (c d : Code) → IsFormatOf s f → MisreadAs s f text c → MisreadAs s f text d → c ≡ d)
    (one_list : HaveOneList) where
  -- a cell without links
  unlinked_is_one : (column : Column) (text : List ℕ) (x y : AnnCell) → IsSound column.properties.datatype → IsCell column text x → IsCell column text y → x ≡ y
  unlinked_is_one column text x y sound h g =
      let same = cell_is_one one_value value_or_code one_code column text (record { value = x.value; faults = x.faults })
      (record { value = y.value; faults = y.faults }) sound.format h.says g.says in
      let value : x.value ≡ y.value = ap (λ (c : Cell). c.value) same in
      let faults : x.faults ≡ y.faults = ap (λ (c : Cell). c.faults) same in
      let about : x.about ≡ y.about = h.about ∙ sym g.about in
      let property : x.property ≡ y.property = h.property ∙ sym g.property in
      let link : x.link ≡ y.link = h.link ∙ sym g.link in
      λ i. record { value = value i; about = about i; property = property i; link = link i; faults = faults i }

  cells_are_one : (columns : List Column) (fields : List (List ℕ)) (xs ys : List AnnCell) → AreSound columns → AreCells columns fields xs
      → AreCells columns fields ys → xs ≡ ys
  cells_are_one [] fields xs ys sound h g = h ∙ sym g
  cells_are_one (c ∷ cs) fields [] ys sound h g = absurd h
  cells_are_one (c ∷ cs) fields (x ∷ xs) [] sound h g = absurd g
  cells_are_one (c ∷ cs) [] (x ∷ xs) (y ∷ ys) sound h g =
      ap (λ z. z ∷ xs) (unlinked_is_one c [] x y sound.0 h.0 g.0) ∙ ap (λ zs. y ∷ zs) (cells_are_one cs [] xs ys sound.1 h.1 g.1)
  cells_are_one (c ∷ cs) (f ∷ fs) (x ∷ xs) (y ∷ ys) sound h g =
      ap (λ z. z ∷ xs) (unlinked_is_one c f x y sound.0 h.0 g.0) ∙ ap (λ zs. y ∷ zs) (cells_are_one cs fs xs ys sound.1 h.1 g.1)

  -- a row, and the rows of a table
  row_is_one : (columns : Columns) (raw : Given) (x y : Row) → AreSound columns.columns → IsRow columns raw x → IsRow columns raw y → x ≡ y
  row_is_one columns raw x y sound h g =
      let number : x.number ≡ y.number = h.number ∙ sym g.number in
      let source : x.source ≡ y.source = h.source ∙ sym g.source in
      let cells : x.cells ≡ y.cells =
      h.cells ∙ ap (linked_cells columns (numbers_of raw)) (cells_are_one columns.columns raw.fields h.unlinked g.unlinked sound h.says g.says) ∙ sym g.cells in
      λ i. record { number = number i; source = source i; cells = cells i }

  rows_are_one : (columns : Columns) (raws : List Given) (xs ys : List Row) → AreSound columns.columns → RowsAreAnnotated columns raws xs
      → RowsAreAnnotated columns raws ys → xs ≡ ys
  rows_are_one columns [] xs ys sound h g = h ∙ sym g
  rows_are_one columns (raw ∷ raws) xs ys sound h g =
      h.2 ∙ ap (λ z. z ∷ h.1) (row_is_one columns raw h.0 g.0 sound h.3 g.3)
      ∙ ap (λ zs. g.0 ∷ zs) (rows_are_one columns raws h.1 g.1 sound h.4 g.4) ∙ sym g.2

  -- a table, of the rows of a file
  whole_is_one : (plan : TablePlan) (given : List Given) (x y : Table) → IsReady plan → IsWholeTable plan given x.columns x.header_faults x.rows
      → IsWholeTable plan given y.columns y.header_faults y.rows → x ≡ y
  whole_is_one plan given x y ready h g =
      let columns : x.columns ≡ y.columns = h.head.columns ∙ sym g.head.columns in
      let faults : x.header_faults ≡ y.header_faults = h.head.faults ∙ sym g.head.faults in
      let sound : AreSound y.columns.columns =
      subst AreSound (sym (ap (λ (c : Columns). c.columns) g.head.columns))
      (sound_columns plan (header_rows plan given) (first_width (header_count plan) given) ready) in
      let rows : x.rows ≡ y.rows =
      rows_are_one y.columns (data_rows plan given) x.rows y.rows sound (subst (λ c. RowsAreAnnotated c (data_rows plan given) x.rows) columns h.has) g.has in
      λ i. record { columns = columns i; header_faults = faults i; rows = rows i }

  table_is_one : (plan : TablePlan) (text : List ℕ) (x y : Table) → IsReady plan → IsAnnotated plan text x → IsAnnotated plan text y → x ≡ y
  table_is_one plan text x y ready h g =
      let same : h.file ≡ g.file = one_list plan.dialect max_rows text h.file g.file ready.dialect h.is_file g.is_file in
      whole_is_one plan (Body plan.dialect g.file) x y ready
      (subst (λ (rows : List FileRow). IsWholeTable plan (Body plan.dialect rows) x.columns x.header_faults x.rows) same h.whole) g.whole

  rest_of : (plan : TablePlan) (plans : List TablePlan) (texts : ℕ → List ℕ) (x : Table) (xs : List Table) → AreAnnotated (plan ∷ plans) texts (x ∷ xs)
      → AreAnnotated plans (λ i. texts (suc i)) xs
  rest_of plan plans texts x xs h = record {
    many = (let e = h.many in omega (arith, e));
    each = λ i p t a b. h.each (suc i) p t a b;
  }

  pub tables_are_one : HaveOneAnnotation
  tables_are_one [] texts others [] [] ready same h g = refl
  tables_are_one [] texts others (x ∷ xs) ys ready same h g = let e = h.many in cc
  tables_are_one [] texts others [] (y ∷ ys) ready same h g = let e = g.many in cc
  tables_are_one (p ∷ ps) texts others [] ys ready same h g = let e = h.many in cc
  tables_are_one (p ∷ ps) texts others (x ∷ xs) [] ready same h g = let e = g.many in cc
  tables_are_one (p ∷ ps) texts others (x ∷ xs) (y ∷ ys) ready same h g =
      let first : x ≡ y = table_is_one p (others 0) x y ready.0 (subst (λ t. IsAnnotated p t x) (same 0) (h.each 0 p x refl refl)) (g.each 0 p y refl refl) in
      let rest : xs ≡ ys = tables_are_one ps (λ i. texts (suc i)) (λ i. others (suc i)) xs ys ready.1 (λ i. same (suc i)) (rest_of p ps texts x xs h)
      (rest_of p ps others y ys g) in
      ap (λ z. z ∷ xs) first ∙ ap (λ zs. y ∷ zs) rest
