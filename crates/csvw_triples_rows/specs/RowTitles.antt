-- The triples of the titles of a row, in their order: `titles_triples` (csv2rdf, section 4.6; Metadata Vocabulary for Tabular Data,
-- section 5.5, `rowTitles`).
use Rattle.std.specs.Prelude.{◌&&◌, ℕ, List, [], ◌∷◌, map, flat_map, bytes_eq, codes, if◌then◌else◌}
use Rattle.std.specs.List.{zip}
use Rattle.csvw_columns_core.specs.declared.column.Column.{Column}
use Rattle.csvw_cell.specs.declared.cell.Item.{Item}
use Rattle.csvw_cell.specs.declared.cell.CellValue.{CellValue}
use Rattle.csvw_cell.specs.declared.cell.CellValue.TheVariants.{Null, One, Many}
use Rattle.csvw_datatype.specs.Lexical.{lexical_of}
use Rattle.csvw_datatype.specs.Strings.{is_string}
use Rattle.csvw_iri.specs.Vocabulary.{xsd_string}
use Rattle.csvw_annotate.specs.declared.row.AnnCell.{AnnCell}
use Rattle.csvw_triples_core.specs.declared.term.Lit.{Lit}
use Rattle.csvw_triples_core.specs.declared.term.Term.TheVariants as term
use Rattle.csvw_triples_core.specs.declared.term.Triple.{Triple}
use Rattle.csvw_triples_core.specs.Literal.{typed_lit, tagged_lit}
use Rattle.csvw_triples_rows.specs.RowTriples.{triple, row_node}
use Rattle.csvw_triples_rows.specs.CsvwVocabulary.{csvw_title}

-- a text in the language of its column; a text whose language is unknown is a string
abbrev pub text_literal : Column → List ℕ → Lit
text_literal column text =
    if bytes_eq column.properties.lang (codes "und") then typed_lit text xsd_string else tagged_lit text column.properties.lang

-- The literal of a title: the lexical form of the value as a text. It has the language of the column if the value was read as one of a
-- string type. Any other value is a text without a language.
abbrev pub title_literal : Column → Item → Lit
title_literal column item =
    if item.was_read && is_string column.properties.datatype then text_literal column (lexical_of item.value)
    else typed_lit (lexical_of item.value) xsd_string

-- the row has the title
abbrev pub title_triple : ℕ → ℕ → Column → Item → Triple
title_triple t number column item = triple (row_node t number) csvw_title (term.Literal (title_literal column item))

-- the titles that a value is: one for each item
abbrev pub value_titles : ℕ → ℕ → Column → CellValue → List Triple
value_titles t number column Null = []
value_titles t number column (One item) = title_triple t number column item ∷ []
value_titles t number column (Many items) = map (title_triple t number column) items

-- the titles of a cell; only columns that `rowTitles` names have titles
abbrev pub title_triples : ℕ → ℕ → Column → AnnCell → List Triple
title_triples t number column cell = if column.is_row_title then value_titles t number column cell.value else []

-- the titles of row `number` of table t, in the order of its columns; suppressed columns have titles too
abbrev pub titles_triples : ℕ → ℕ → List Column → List AnnCell → List Triple
titles_triples t number columns cells = flat_map (λ p. title_triples t number p.0 p.1) (zip columns cells)
