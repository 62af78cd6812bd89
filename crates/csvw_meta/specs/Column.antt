-- The column that an object of a document describes, and its faults: `column` (Metadata Vocabulary for Tabular Data, section
-- 5.6).
use Rattle.std.specs.Prelude.{ℕ, List, [], ◌++◌, false, None, codes, ◌∷◌}
use Rattle.serde_json.specs.Data.{Data}
use Rattle.csvw_description.specs.declared.column.ColumnDescription.{ColumnDescription}
use Rattle.csvw_meta_core.specs.Read.{Read, fine, ◌>>=◌, on_object, property, optional}
use Rattle.csvw_meta_core.specs.Kinds.{fixed, truth}
use Rattle.csvw_meta_core.specs.Links.{id}
use Rattle.csvw_meta_notes.specs.Unlisted.{unlisted}
use Rattle.csvw_meta_core.specs.declared.context.Context.{Context}
use Rattle.csvw_meta.specs.DeclaredName.{name}
use Rattle.csvw_description.specs.Inherited.{no_inherited}
use Rattle.csvw_meta_inherited.specs.Inherited.{inherited}
use Rattle.csvw_meta_inherited.specs.Names.{inherited_names}
use Rattle.csvw_meta_notes.specs.Places.{place_of}
use Rattle.csvw_meta.specs.Titles.{titles}

-- the properties of a column
abbrev pub column_names : List (List ℕ)
column_names =
    codes "@id" ∷ codes "@type" ∷ codes "name" ∷ codes "titles" ∷ codes "suppressOutput" ∷ codes "virtual" ∷ []

abbrev pub no_column : ColumnDescription
no_column = record { name = None; titles = []; is_virtual = false; suppressed = false; is_row_title = false; inherited = no_inherited; warnings = [] }

unfoldable pub column_of : Context → ℕ → ℕ → List ℕ → Data → Read ColumnDescription
column_of context table number at d = do
  iri ← optional (id context.base) at d (codes "@id")
  type ← optional (fixed (codes "Column")) at d (codes "@type")
  is_virtual ← property truth false at d (codes "virtual")
  suppressed ← property truth false at d (codes "suppressOutput")
  warnings ← unlisted context.base context.language (column_names ++ inherited_names) (place_of table number) at d
  name ← optional name at d (codes "name")
  titles ← property (titles context.language) [] at d (codes "titles")
  found ← inherited context table number at d
  fine (record {
    name = name;
    titles = titles;
    is_virtual = is_virtual;
    suppressed = suppressed;
    is_row_title = false;
    inherited = found.inherited;
    warnings = found.warnings ++ warnings;
  })

-- the column of this number, of the table of that number or of the group if it is 0
abbrev pub column : Context → ℕ → ℕ → List ℕ → Data → Read ColumnDescription
column context table number at d = on_object at d no_column (column_of context table number at d)
