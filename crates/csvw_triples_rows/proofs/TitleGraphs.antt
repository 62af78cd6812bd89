-- The titles of a row are those of its graph.
use Rattle.std.proofs.Common.{◌≡◌, ℕ, Bool, true, false, cond, List, [], refl, sym, subst, Contains}
use Rattle.std.specs.List.{zip}
use Rattle.csvw_columns_core.specs.declared.column.Column.{Column}
use Rattle.csvw_columns_core.specs.declared.columns.Columns.{Columns}
use Rattle.csvw_cell.specs.declared.cell.Item.{Item}
use Rattle.csvw_cell.specs.declared.cell.CellValue.{CellValue}
use Rattle.csvw_cell.specs.declared.cell.CellValue.TheVariants.{Null, One, Many}
use Rattle.csvw_annotate.specs.declared.row.Row.{Row}
use Rattle.csvw_triples_core.specs.declared.term.Triple.{Triple}
use Rattle.csvw_triples_rows.specs.RowTitles.{title_triple, value_titles, title_triples, titles_triples}
use Rattle.csvw_triples_rows.specs.Standard.{IsItemOf, IsTitle}
use Rattle.csvw_triples_rows.proofs.Graphs.{none_in, one_in, is_first, from_flat, to_flat, from_map, to_map}

-- only a column of row titles has titles

only_if : {X : Type 0} (b : Bool) (xs : List X) (x : X) → Contains (cond b xs []) x → (b ≡ true) × Contains xs x
only_if true xs x h = (refl, h)
only_if false xs x h = absurd (none_in x h)

if_so : {X : Type 0} (b : Bool) (xs : List X) (x : X) → b ≡ true → Contains xs x → Contains (cond b xs []) x
if_so b xs x e h = subst (λ t. Contains (cond t xs []) x) (sym e) h

module _ (t number : ℕ) (column : Column) where
  from_value : (value : CellValue) (x : Triple) → Contains (value_titles t number column value) x
      → (item : Item) × IsItemOf value item × (x ≡ title_triple t number column item)
  from_value Null x h = absurd (none_in x h)
  from_value (One item) x h = (item, refl, one_in _ x h)
  from_value (Many items) x h = from_map (title_triple t number column) items x h

  to_value : (value : CellValue) (item : Item) (x : Triple) → IsItemOf value item → x ≡ title_triple t number column item
      → Contains (value_titles t number column value) x
  to_value Null item x h e = absurd h
  to_value (One only) item x h e = is_first _ [] x (subst (λ (i : Item). x ≡ title_triple t number column i) h e)
  to_value (Many items) item x h e = to_map (title_triple t number column) items item x h e

pub from_titles : (t : ℕ) (columns : Columns) (row : Row) (x : Triple) → Contains (titles_triples t row.number columns.columns row.cells) x
    → IsTitle t columns row x
from_titles t columns row x h =
    let ((column, cell), is_cell, of_cell) = from_flat (λ p. title_triples t row.number p.0 p.1) (zip columns.columns row.cells) x h in
    let one = only_if column.is_row_title (value_titles t row.number column cell.value) x of_cell in
    let (item, is_item, is) = from_value t row.number column cell.value x one.1 in
    (column, cell, is_cell, one.0, item, is_item, is)

pub to_titles : (t : ℕ) (columns : Columns) (row : Row) (x : Triple) → IsTitle t columns row x
    → Contains (titles_triples t row.number columns.columns row.cells) x
to_titles t columns row x (column, cell, is_cell, is_row_title, item, is_item, is) =
    let titles = to_value t row.number column cell.value item x is_item is in
    let of_cell : Contains (title_triples t row.number column cell) x = if_so column.is_row_title _ x is_row_title titles in
    to_flat (λ p. title_triples t row.number p.0 p.1) (zip columns.columns row.cells) (column, cell) x is_cell of_cell
