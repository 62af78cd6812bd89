-- The triples of one cell, by their subject and predicate and by the place of its list (csv2rdf, section 4.6).
use Rattle.std.specs.Prelude.{ℕ, List, [], ◌∷◌, Option, Some, None}
use Rattle.csvw_columns_core.specs.declared.column.Column.{Column}
use Rattle.csvw_cell.specs.declared.cell.Item.{Item}
use Rattle.csvw_triples_core.specs.declared.origin.Origin.{Origin}
use Rattle.csvw_triples_core.specs.declared.origin.Origin.TheVariants.{Entry}
use Rattle.csvw_triples_core.specs.declared.term.Node.TheVariants as node
use Rattle.csvw_triples_core.specs.declared.term.Term.{Term}
use Rattle.csvw_triples_core.specs.declared.term.Term.TheVariants as term
use Rattle.csvw_triples_core.specs.declared.term.Triple.{Triple}
use Rattle.csvw_triples_core.specs.Lent.{node_of}
use Rattle.csvw_triples_rows.specs.declared.stem.ListPlace.{ListPlace}
use Rattle.csvw_triples_rows.specs.declared.stem.Stem.{Stem}
use Rattle.csvw_triples_rows.specs.Literals.{literal_of}
use Rattle.csvw_triples_rows.specs.RowTriples.{triple}
use Rattle.csvw_triples_rows.specs.Vocabulary.{rdf_first, rdf_rest, rdf_nil}

-- a triple of the cell, by its object
abbrev pub object_triple : Stem → Term → Triple
object_triple stem o = triple (node_of stem.s) stem.p.now o

-- the triple of a value or an item
abbrev pub literal_triple : Stem → Column → Item → Triple
literal_triple stem column item = object_triple stem (term.Literal (literal_of column item))

-- the entries of its list
abbrev pub entries_in : ListPlace → ℕ → Origin
entries_in place k = Entry place.table place.row place.column k

-- the node of a list, by its first entry; an empty list has none
abbrev pub node_from : Option Origin → Term
node_from None = term.Named rdf_nil
node_from (Some entry) = term.Blank entry

-- the triples of an entry, by the entry after it
abbrev pub entry_triples : Origin → Column → Item → Option Origin → List Triple
entry_triples entry column item next =
    triple (node.Blank entry) rdf_first (term.Literal (literal_of column item)) ∷ triple (node.Blank entry) rdf_rest (node_from next) ∷ []
