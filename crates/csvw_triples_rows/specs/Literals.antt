-- The literals of values (csv2rdf, section 4.6; Metadata Vocabulary for Tabular Data, section 5.7, `lang`).
use Rattle.std.specs.Prelude.{ℕ, Bool, not, ◌&&◌, is_some, List, bytes_eq, codes, if◌then◌else◌}
use Rattle.csvw_columns_core.specs.declared.column.Column.{Column}
use Rattle.csvw_columns_core.specs.declared.properties.Properties.{Properties}
use Rattle.csvw_datatype.specs.Lexical.{lexical_of}
use Rattle.csvw_datatype.specs.Strings.{is_string}
use Rattle.csvw_cell.specs.declared.cell.Item.{Item}
use Rattle.csvw_triples_core.specs.declared.term.Lit.{Lit}
use Rattle.csvw_triples_core.specs.Literal.{typed_lit, tagged_lit}
use Rattle.csvw_iri.specs.Vocabulary.{xsd_string}

-- literals of a column have a language if its datatype is a string type without an `@id` and its language is known
abbrev pub has_language : Properties → Bool
has_language p = is_string p.datatype && not (is_some p.datatype.id) && not (bytes_eq p.lang (codes "und"))

-- the literal of a value that was read: with its language if it has one, else with the datatype of its column
abbrev pub read_literal : Column → List ℕ → Lit
read_literal column text = if has_language column.properties then tagged_lit text column.properties.lang else typed_lit text column.literal_datatype

-- the literal of an item: the lexical form of its value; a value that was not read is a string
abbrev pub literal_of : Column → Item → Lit
literal_of column item = if item.was_read then read_literal column (lexical_of item.value) else typed_lit (lexical_of item.value) xsd_string
