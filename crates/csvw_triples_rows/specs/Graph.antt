-- The graph of a row and of a table, with lists and links, in minimal mode (csv2rdf, section 4.2).
use Rattle.std.specs.Prelude.{ℕ, ◌+◌, ◌≡◌, ◌⊎◌, false, MatchBool, List, drop, Contains, Option, Some, None, slice_get}
use Rattle.std.specs.List.{zip}
use Rattle.csvw_columns_core.specs.declared.column.Column.{Column}
use Rattle.csvw_columns_core.specs.declared.columns.Columns.{Columns}
use Rattle.csvw_cell.specs.declared.cell.Item.{Item}
use Rattle.csvw_cell.specs.declared.cell.CellValue.{CellValue}
use Rattle.csvw_cell.specs.declared.cell.CellValue.TheVariants.{Null, One, Many}
use Rattle.csvw_annotate.specs.declared.row.AnnCell.{AnnCell}
use Rattle.csvw_annotate.specs.declared.row.Row.{Row}
use Rattle.csvw_triples_core.specs.declared.origin.Origin.{Origin}
use Rattle.csvw_triples_core.specs.declared.term.Term.{Term}
use Rattle.csvw_triples_core.specs.declared.term.Term.TheVariants as term
use Rattle.csvw_triples_core.specs.declared.term.Triple.{Triple}
use Rattle.csvw_triples_rows.specs.Literals.{literal_of}
use Rattle.csvw_triples_rows.specs.RowTriples.{subject_of, predicate_of, entries_of, list_node, first_triple, rest_triple}

-- the cell of a row in a column
abbrev pub IsCell : Columns → Row → Column → AnnCell → Type 0
IsCell columns row column cell = Contains (zip columns.columns row.cells) (column, cell)

-- an object of a value: its literal, the literal of some item, or an ordered list
abbrev pub IsObjectOf : (ℕ → Origin) → Column → CellValue → Term → Type 0
IsObjectOf entry column Null o = ⊥
IsObjectOf entry column (One item) o = o ≡ term.Literal (literal_of column item)
IsObjectOf entry column (Many items) o =
    MatchBool column.properties.ordered
    (o ≡ list_node entry 1 items)
    ((item : Item) × Contains items item × (o ≡ term.Literal (literal_of column item)))

-- an object of a cell: its value link, else one of its value
abbrev pub IsObjectBy : (ℕ → Origin) → Column → CellValue → Option (List ℕ) → Term → Type 0
IsObjectBy entry column value None o = IsObjectOf entry column value o
IsObjectBy entry column value (Some link) o = o ≡ term.Named link

-- item i of an ordered list, from 0: its entry has the literal as its first, and the entry of the next item, or rdf:nil, as its rest
abbrev pub IsListTriple : (ℕ → Origin) → Column → List Item → Triple → Type 0
IsListTriple entry column items x =
    (i : ℕ) × (item : Item) × (slice_get items i ≡ Some item)
    × ((x ≡ first_triple entry column (i + 1) item) ⊎ (x ≡ rest_triple entry (i + 1) (drop (i + 1) items)))

-- the triples of the ordered list that a cell is, if it is one
abbrev pub IsOfList : (ℕ → Origin) → Column → CellValue → Option (List ℕ) → Triple → Type 0
IsOfList entry column (Many items) None x = MatchBool column.properties.ordered (IsListTriple entry column items x) ⊥
IsOfList entry column value link x = ⊥

-- a triple of a cell: its subject, its predicate and one of its objects, or a triple of its list
abbrev pub IsOfCell : ℕ → ℕ → Column → AnnCell → Triple → Type 0
IsOfCell t number column cell x =
    ((x.s ≡ subject_of t number cell) × (x.p ≡ predicate_of column cell) × IsObjectBy (entries_of t number column) column cell.value cell.link x.o)
    ⊎ IsOfList (entries_of t number column) column cell.value cell.link x

-- the triples of a row of table t: those of its cells in columns that are not suppressed, unless the table is suppressed
abbrev pub MinimalRow : ℕ → Columns → Row → Triple → Type 0
MinimalRow t columns row x =
    (columns.suppressed ≡ false) × (column : Column) × (cell : AnnCell) × IsCell columns row column cell
    × (column.suppressed ≡ false) × IsOfCell t row.number column cell x

-- the triples of table t: those of its rows; a table without columns has none
abbrev pub Minimal : ℕ → Option Columns → List Row → Triple → Type 0
Minimal t None rows x = ⊥
Minimal t (Some columns) rows x = (row : Row) × Contains rows row × MinimalRow t columns row x
