-- The columns that a schema declares (Metadata Vocabulary for Tabular Data, sections 5.6 and 5.7; csv2rdf, section 4.6.5).
use Rattle.std.specs.Prelude.{ℕ, ◌+◌, Bool, List, [], ◌∷◌, ◌++◌, Option, Some, None, is_some, codes, if◌then◌else◌}
use Rattle.csvw_description.specs.declared.column.ColumnDescription.{ColumnDescription}
use Rattle.csvw_description.specs.declared.inherited.Inherited.{Inherited}
use Rattle.csvw_description.specs.Name.{name_of}
use Rattle.csvw_columns_core.specs.declared.column.Column.{Column}
use Rattle.csvw_columns_core.specs.Inherited.{properties_of}
use Rattle.csvw_columns_core.specs.LiteralDatatype.{literal_datatype}

-- the number in the source, with the skipped columns counted; a virtual column has none
abbrev pub source_number_of : Bool → ℕ → ℕ → Option ℕ
source_number_of is_virtual skipped number = if is_virtual then None else Some (skipped + number)

-- column n of the table of this URL, with the properties of its schema, its table and the group
abbrev pub declared : List ℕ → ℕ → Inherited → Inherited → Inherited → ℕ → ColumnDescription → Column
declared url skipped schema table group n c = record {
  name = name_of n c;
  is_named = is_some c.name;
  titles = c.titles;
  number = n;
  source_number = source_number_of c.is_virtual skipped n;
  is_virtual = c.is_virtual;
  suppressed = c.suppressed;
  is_row_title = c.is_row_title;
  predicate = url ++ codes "#" ++ name_of n c;
  literal_datatype = literal_datatype (properties_of c.inherited schema table group).datatype;
  properties = properties_of c.inherited schema table group;
}

-- the columns from number n on
abbrev pub declared_from : List ℕ → ℕ → Inherited → Inherited → Inherited → ℕ → List ColumnDescription → List Column
declared_from url skipped schema table group n [] = []
declared_from url skipped schema table group n (c ∷ cs) =
    declared url skipped schema table group n c ∷ declared_from url skipped schema table group (n + 1) cs

abbrev pub declared_columns : List ℕ → ℕ → Inherited → Inherited → Inherited → List ColumnDescription → List Column
declared_columns url skipped schema table group cs = declared_from url skipped schema table group 1 cs
