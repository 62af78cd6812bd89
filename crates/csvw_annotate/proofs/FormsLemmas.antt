-- The values of cells have lexical forms.
use Rattle.std.proofs.Common.{◌≡◌, ℕ, Bool, true, false, List, [], ◌∷◌, Option, Some, None, length, refl, sym, subst}
use Rattle.std.specs.Prelude.{MatchBool, ◌==◌}
use Rattle.csvw_fault.specs.declared.fault.Code.{Code}
use Rattle.csvw_datatype.specs.declared.datatype.Datatype.{Datatype}
use Rattle.csvw_datatype.specs.declared.format.Format.{Format}
use Rattle.csvw_datatype.specs.declared.simple.Simple.{Simple}
use Rattle.csvw_datatype.specs.declared.value.Value.{Value}
use Rattle.csvw_datatype.specs.Lexical.{IsWritable}
use Rattle.csvw_datatype.specs.Reads.{ReadsAs}
use Rattle.csvw_columns_core.specs.declared.column.Column.{Column}
use Rattle.csvw_columns_core.specs.declared.columns.Columns.{Columns}
use Rattle.csvw_columns_core.specs.declared.properties.Properties.{Properties}
use Rattle.csvw_records.specs.RowValue.{Given}
use Rattle.csvw_cell.specs.CellOf.{IsItem, AreItems, IsSingle, IsListOf, IsList, IsCellBy, is_null, texts_of, missing, or_default, normalized}
use Rattle.csvw_cell.specs.declared.cell.Cell.{Cell}
use Rattle.csvw_cell.specs.declared.cell.Item.{Item}
use Rattle.csvw_cell.specs.declared.cell.CellValue.TheVariants as values
use Rattle.csvw_annotate.specs.Annotated.{IsCell, AreCells, IsRow, numbers_of}
use Rattle.csvw_annotate.specs.declared.row.AnnCell.{AnnCell}
use Rattle.csvw_annotate.specs.declared.row.Row.{Row}
use Rattle.csvw_cell.specs.HasForm.{HasForm, HaveForms}
use Rattle.csvw_annotate.specs.HasForms.{CellsHaveForms, HasForms}
use Rattle.csvw_annotate.specs.Linked.{ArePlain, each_linked, linked_in, values_of}

-- cells without links
pub are_plain : (columns : List Column) (fields : List (List ℕ)) (cells : List AnnCell) → AreCells columns fields cells → ArePlain cells
are_plain [] fields cells h = subst ArePlain (sym h) tt
are_plain (column ∷ columns) fields [] h = tt
are_plain (column ∷ columns) [] (cell ∷ cells) h = ((h.0.about, h.0.property, h.0.link), are_plain columns [] cells h.1)
are_plain (column ∷ columns) (field ∷ fields) (cell ∷ cells) h = ((h.0.about, h.0.property, h.0.link), are_plain columns fields cells h.1)

-- the law of csvw_datatype: each value that a text is has a lexical form
abbrev Writable : Type 0
Writable = (s : Simple) (f : Option Format) (text : List ℕ) (v : Value) → ReadsAs s f text v → IsWritable v

-- what holds of each case of a test
either : {P Q R : Type 0} (b : Bool) → (P → R) → (Q → R) → MatchBool b P Q → R
either true f g h = f h
either false f g h = g h

-- links leave values as they are
linked_forms : (link : Column → AnnCell → AnnCell) → ((column : Column) (cell : AnnCell) → (link column cell).value ≡ cell.value)
    → (columns : List Column) (cells : List AnnCell) → CellsHaveForms cells → CellsHaveForms (each_linked link columns cells)
linked_forms link keeps [] cells h = tt
linked_forms link keeps (column ∷ columns) [] h = tt
linked_forms link keeps (column ∷ columns) (cell ∷ cells) h = (subst HasForm (sym (keeps column cell)) h.0, linked_forms link keeps columns cells h.1)

module _ (law : Writable) where
  item_form : (d : Datatype) (text : List ℕ) (item : Item) (codes : List Code) → IsItem d text item codes → IsWritable item.value
  item_form d text item codes h =
      either item.was_read (λ k. law d.simple d.format text item.value k.0) (λ k. subst IsWritable (sym k.2) tt) h

  items_forms : (d : Datatype) (texts : List (List ℕ)) (items : List Item) (codes : List Code) → AreItems d texts items codes → HaveForms items
  items_forms d [] items codes h = subst HaveForms (sym h.0) tt
  items_forms d (text ∷ texts) items codes h = subst HaveForms (sym h.4) (item_form d text h.0 h.2 h.6, items_forms d texts h.1 h.3 h.7)

  null_form : (cell : Cell) → cell.value ≡ values.Null → HasForm cell.value
  null_form cell e = subst HasForm (sym e) tt

  single_form : (p : Properties) (text : List ℕ) (cell : Cell) → IsSingle p text cell → HasForm cell.value
  single_form p text cell h =
      either (is_null p.null text) (λ k. null_form cell k.0) (λ k. subst HasForm (sym k.3) (item_form p.datatype text k.0 k.1 k.2)) h

  list_of_forms : (p : Properties) (separator text : List ℕ) (cell : Cell) → IsListOf p separator text cell → HasForm cell.value
  list_of_forms p separator text cell k = subst HasForm (sym k.5) (items_forms p.datatype (texts_of p k.0) k.1 k.2 k.4)

  list_forms : (p : Properties) (separator text : List ℕ) (cell : Cell) → IsList p separator text cell → HasForm cell.value
  list_forms p separator text cell h =
      either (length text == 0) (λ (k : (cell.value ≡ values.Many []) × (cell.faults ≡ missing p)). subst HasForm (sym k.0) tt)
      (λ r. either (is_null p.null text) (λ (k : (cell.value ≡ values.Null) × (cell.faults ≡ [])). null_form cell k.0)
      (λ k. list_of_forms p separator text cell k) r) h

  by_forms : (p : Properties) (separator : Option (List ℕ)) (text : List ℕ) (cell : Cell) → IsCellBy p separator text cell → HasForm cell.value
  by_forms p None text cell h = single_form p text cell h
  by_forms p (Some separator) text cell h = list_forms p separator text cell h

  cell_forms : (column : Column) (text : List ℕ) (cell : AnnCell) → IsCell column text cell → HasForm cell.value
  cell_forms column text cell h =
      by_forms column.properties column.properties.separator (or_default column.properties.default (normalized column.properties.datatype text))
      (record { value = cell.value; faults = cell.faults }) h.says

  pub cells_forms : (columns : List Column) (fields : List (List ℕ)) (cells : List AnnCell) → AreCells columns fields cells → CellsHaveForms cells
  cells_forms [] fields cells h = subst CellsHaveForms (sym h) tt
  cells_forms (column ∷ columns) fields [] h = tt
  cells_forms (column ∷ columns) [] (cell ∷ cells) h = (cell_forms column [] cell h.0, cells_forms columns [] cells h.1)
  cells_forms (column ∷ columns) (field ∷ fields) (cell ∷ cells) h = (cell_forms column field cell h.0, cells_forms columns fields cells h.1)

  pub row_forms : (columns : Columns) (raw : Given) (row : Row) → IsRow columns raw row → HasForms row
  row_forms columns raw row h =
      let link = linked_in columns (numbers_of raw) (values_of h.unlinked) in
      subst CellsHaveForms (sym h.cells)
      (linked_forms link (λ column cell. refl) columns.columns h.unlinked (cells_forms columns.columns raw.fields h.unlinked h.says))
