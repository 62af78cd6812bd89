-- The triples of a row, in their order, in minimal mode (csv2rdf, sections 4.2 and 4.6).
use Rattle.std.specs.Prelude.{ℕ, ◌+◌, List, [], ◌∷◌, map, flat_map, Option, Some, None, unwrap_or, if◌then◌else◌}
use Rattle.std.specs.List.{zip}
use Rattle.csvw_columns_core.specs.declared.column.Column.{Column}
use Rattle.csvw_columns_core.specs.declared.columns.Columns.{Columns}
use Rattle.csvw_cell.specs.declared.cell.Item.{Item}
use Rattle.csvw_cell.specs.declared.cell.CellValue.{CellValue}
use Rattle.csvw_cell.specs.declared.cell.CellValue.TheVariants.{Null, One, Many}
use Rattle.csvw_annotate.specs.declared.row.AnnCell.{AnnCell}
use Rattle.csvw_annotate.specs.declared.row.Row.{Row}
use Rattle.csvw_triples_core.specs.declared.origin.Origin.{Origin}
use Rattle.csvw_triples_core.specs.declared.origin.Origin.TheVariants as origin
use Rattle.csvw_triples_core.specs.declared.term.Node.{Node}
use Rattle.csvw_triples_core.specs.declared.term.Node.TheVariants as node
use Rattle.csvw_triples_core.specs.declared.term.Term.{Term}
use Rattle.csvw_triples_core.specs.declared.term.Term.TheVariants as term
use Rattle.csvw_triples_core.specs.declared.term.Triple.{Triple}
use Rattle.csvw_triples_rows.specs.Literals.{literal_of}
use Rattle.csvw_triples_rows.specs.Vocabulary.{rdf_first, rdf_rest, rdf_nil}

abbrev pub triple : Node → List ℕ → Term → Triple
triple s p o = record { s = s; p = p; o = o }

-- a row of table t, by its number
abbrev pub row_node : ℕ → ℕ → Node
row_node t number = node.Blank (origin.Row t number)

-- a subject: the about link, else the default subject of the row, a blank node
abbrev pub subject_by : ℕ → ℕ → Option (List ℕ) → Node
subject_by t number None = node.Blank (origin.Subject t number)
subject_by t number (Some iri) = node.Named iri

abbrev pub subject_of : ℕ → ℕ → AnnCell → Node
subject_of t number cell = subject_by t number cell.about

-- the predicate of a cell: its property link, else the predicate of its column
abbrev pub predicate_of : Column → AnnCell → List ℕ
predicate_of column cell = unwrap_or cell.property column.predicate

-- the entries of an ordered list, from 1
abbrev pub entries_of : ℕ → ℕ → Column → ℕ → Origin
entries_of t number column k = origin.Entry t number column.number k

-- the node of a list whose first entry has number k
abbrev pub list_node : (ℕ → Origin) → ℕ → List Item → Term
list_node entry k [] = term.Named rdf_nil
list_node entry k (item ∷ items) = term.Blank (entry k)

abbrev pub first_triple : (ℕ → Origin) → Column → ℕ → Item → Triple
first_triple entry column k item = triple (node.Blank (entry k)) rdf_first (term.Literal (literal_of column item))

abbrev pub rest_triple : (ℕ → Origin) → ℕ → List Item → Triple
rest_triple entry k others = triple (node.Blank (entry k)) rdf_rest (list_node entry (k + 1) others)

-- the triples of the entries of such a list: each has its literal and the rest of the list
abbrev pub list_triples : (ℕ → Origin) → Column → ℕ → List Item → List Triple
list_triples entry column k [] = []
list_triples entry column k (item ∷ items) =
    first_triple entry column k item ∷ rest_triple entry k items ∷ list_triples entry column (k + 1) items

-- the triples of items: one for each item, or the list and its entries
abbrev pub items_triples : Node → List ℕ → (ℕ → Origin) → Column → List Item → List Triple
items_triples s p entry column items =
    if column.properties.ordered then triple s p (list_node entry 1 items) ∷ list_triples entry column 1 items
    else map (λ item. triple s p (term.Literal (literal_of column item))) items

abbrev pub value_triples : Node → List ℕ → (ℕ → Origin) → Column → CellValue → List Triple
value_triples s p entry column Null = []
value_triples s p entry column (One item) = triple s p (term.Literal (literal_of column item)) ∷ []
value_triples s p entry column (Many items) = items_triples s p entry column items

-- the triples of a cell by its objects: a value link replaces the value
abbrev pub object_triples : Node → List ℕ → (ℕ → Origin) → Column → CellValue → Option (List ℕ) → List Triple
object_triples s p entry column value None = value_triples s p entry column value
object_triples s p entry column value (Some link) = triple s p (term.Named link) ∷ []

-- the triples of a cell; a suppressed column has none
abbrev pub cell_triples : ℕ → ℕ → Column → AnnCell → List Triple
cell_triples t number column cell =
    if column.suppressed then []
    else object_triples (subject_of t number cell) (predicate_of column cell) (entries_of t number column) column cell.value cell.link

abbrev pub cells_triples : ℕ → ℕ → List Column → List AnnCell → List Triple
cells_triples t number columns cells = flat_map (λ p. cell_triples t number p.0 p.1) (zip columns cells)

-- the triples of a row of table t; a suppressed table has none
abbrev pub minimal_triples : ℕ → Columns → Row → List Triple
minimal_triples t columns row = if columns.suppressed then [] else cells_triples t row.number columns.columns row.cells
