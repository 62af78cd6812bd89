-- The triples of a row in standard mode, in their order (csv2rdf, section 4.2).
use Rattle.std.specs.Prelude.{ℕ, Bool, true, false, List, [], ◌∷◌, ◌++◌, Option, Some, None, codes, decimal, bytes_eq, if◌then◌else◌}
use Rattle.std.specs.List.{zip}
use Rattle.csvw_iri.specs.Vocabulary.{xsd_integer}
use Rattle.csvw_iri.specs.Link.{iri_of}
use Rattle.csvw_columns_core.specs.declared.column.Column.{Column}
use Rattle.csvw_columns_core.specs.declared.columns.Columns.{Columns}
use Rattle.csvw_annotate.specs.declared.row.AnnCell.{AnnCell}
use Rattle.csvw_annotate.specs.declared.row.Row.{Row}
use Rattle.csvw_triples_core.specs.declared.origin.Origin.TheVariants as origin
use Rattle.csvw_triples_core.specs.declared.term.Node.{Node}
use Rattle.csvw_triples_core.specs.declared.term.Node.TheVariants as node
use Rattle.csvw_triples_core.specs.declared.term.Term.{Term}
use Rattle.csvw_triples_core.specs.declared.term.Term.TheVariants as term
use Rattle.csvw_triples_core.specs.declared.term.Triple.{Triple}
use Rattle.csvw_triples_core.specs.Literal.{typed_lit}
use Rattle.csvw_triples_rows.specs.RowTriples.{triple, row_node, subject_of, cell_triples}
use Rattle.csvw_triples_rows.specs.RowTitles.{titles_triples}
use Rattle.csvw_triples_rows.specs.CsvwVocabulary.{row_of_table, row_class, csvw_rownum, csvw_url, csvw_describes, rdf_type}

-- a table: its `@id`, else its blank node
abbrev pub table_node : ℕ → Option (List ℕ) → Node
table_node t None = node.Blank (origin.Table t)
table_node t (Some id) = node.Named id

-- a node as an object
abbrev pub object_of : Node → Term
object_of (node.Named iri) = term.Named iri
object_of (node.Blank o) = term.Blank o

-- the fragment of a row, by its source number (RFC 7111, section 2.1)
abbrev pub row_fragment : ℕ → List ℕ
row_fragment source = codes "row=" ++ decimal source

abbrev pub row_url : Columns → Row → List ℕ
row_url columns row = iri_of columns.url ++ codes "#" ++ row_fragment row.source

-- the table has the row
abbrev pub member_triple : ℕ → Columns → ℕ → Triple
member_triple t columns number = triple (table_node t columns.id) row_of_table (term.Blank (origin.Row t number))

-- the class of the row
abbrev pub class_triple : ℕ → ℕ → Triple
class_triple t number = triple (row_node t number) rdf_type (term.Named row_class)

-- the number of the row
abbrev pub number_triple : ℕ → ℕ → Triple
number_triple t number = triple (row_node t number) csvw_rownum (term.Literal (typed_lit (decimal number) xsd_integer))

-- the place of the row in its source
abbrev pub url_triple : ℕ → Columns → Row → Triple
url_triple t columns row = triple (row_node t row.number) csvw_url (term.Named (row_url columns row))

-- the row describes this node
abbrev pub describes_triple : ℕ → ℕ → Node → Triple
describes_triple t number s = triple (row_node t number) csvw_describes (object_of s)

abbrev pub row_front : ℕ → Columns → Row → List Triple
row_front t columns row =
    member_triple t columns row.number ∷ class_triple t row.number ∷ number_triple t row.number ∷ url_triple t columns row ∷ []

-- two cells of a row have the same subject
abbrev pub same_about : Option (List ℕ) → Option (List ℕ) → Bool
same_about None None = true
same_about None (Some b) = false
same_about (Some a) None = false
same_about (Some a) (Some b) = bytes_eq a b

-- the cell has the same subject as the last cell before it, if there is one
abbrev pub is_described : Option AnnCell → AnnCell → Bool
is_described None cell = false
is_described (Some last) cell = same_about last.about cell.about

-- the triples that say that the row describes a cell's subject
abbrev pub describes_triples : ℕ → ℕ → Option AnnCell → AnnCell → List Triple
describes_triples t number last cell =
    if is_described last cell then [] else describes_triple t number (subject_of t number cell) ∷ []

-- the triples of a cell, by the last cell before it whose column is not suppressed; a suppressed column has none
abbrev pub described_triples : ℕ → ℕ → Column → Option AnnCell → AnnCell → List Triple
described_triples t number column last cell =
    if column.suppressed then [] else describes_triples t number last cell ++ cell_triples t number column cell

-- the last cell whose column is not suppressed, after one more cell
abbrev pub last_after : Column → Option AnnCell → AnnCell → Option AnnCell
last_after column last cell = if column.suppressed then last else Some cell

abbrev pub described_cells : ℕ → ℕ → Option AnnCell → List (Column × AnnCell) → List Triple
described_cells t number last [] = []
described_cells t number last (p ∷ pairs) =
    described_triples t number p.0 last p.1 ++ described_cells t number (last_after p.0 last p.1) pairs

-- what comes after the front of a row: its titles, and then the triples of its cells with what it describes
abbrev pub row_contents : ℕ → ℕ → List Column → List AnnCell → List Triple
row_contents t number columns cells = titles_triples t number columns cells ++ described_cells t number None (zip columns cells)

-- the triples of a row of table t in standard mode; a suppressed table has none
abbrev pub standard_triples : ℕ → Columns → Row → List Triple
standard_triples t columns row =
    if columns.suppressed then []
    else row_front t columns row ++ row_contents t row.number columns.columns row.cells
