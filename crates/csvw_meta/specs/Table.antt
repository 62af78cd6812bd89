-- The table that an object of a document describes, and its faults: `table` (Metadata Vocabulary for Tabular Data, section 5.4).
use Rattle.std.specs.Prelude.{ℕ, List, [], ◌++◌, Bool, true, false, None, codes, ◌∷◌}
use Rattle.serde_json.specs.Data.{Data}
use Rattle.csvw_fault.specs.declared.fault.Fault.{Fault}
use Rattle.csvw_meta_core.specs.Read.{Read, fine, ◌>>=◌, on_object, needed, property, optional}
use Rattle.csvw_meta_core.specs.Kinds.{fixed, truth}
use Rattle.csvw_meta_core.specs.Links.{url, id, no_url}
use Rattle.csvw_meta_notes.specs.Unlisted.{all_notes, all_warnings}
use Rattle.csvw_meta_core.specs.declared.context.Context.{Context}
use Rattle.csvw_meta.specs.declared.table.TableFound.{TableFound}
use Rattle.csvw_meta.specs.Body.{given_dialect, body}
use Rattle.csvw_description.specs.Inherited.{no_inherited}
use Rattle.csvw_meta_inherited.specs.Names.{inherited_names}
use Rattle.csvw_meta_notes.specs.Places.{place_of}

-- the properties of a table of a group
abbrev pub table_names : List (List ℕ)
table_names =
    codes "url" ∷ codes "@id" ∷ codes "@type" ∷ codes "dialect" ∷ codes "tableSchema" ∷ codes "notes" ∷ codes "suppressOutput"
    ∷ codes "tableDirection" ∷ codes "transformations" ∷ []

-- the properties of a table that is the document
abbrev pub sole_table_names : List (List ℕ)
sole_table_names = codes "@context" ∷ table_names

-- the properties of a table: of one that is the document, and of another
abbrev pub table_others : Bool → ℕ → List ℕ → Data → Read (List Fault)
table_others true number at d = all_warnings (sole_table_names ++ inherited_names) (place_of 1 0) at d
table_others false number at d = all_warnings (table_names ++ inherited_names) (place_of number 0) at d

unfoldable pub table_of : Context → Bool → ℕ → List ℕ → Data → Read TableFound
table_of context sole number at d = do
  type ← optional (fixed (codes "Table")) at d (codes "@type")
  notes ← all_notes context.base context.language at d
  suppressed ← property truth false at d (codes "suppressOutput")
  warnings ← table_others sole number at d
  url ← needed (url context.base) no_url at d (codes "url")
  iri ← optional (id context.base) at d (codes "@id")
  given ← given_dialect context number warnings at d
  body ← body context number at d
  fine (record {
    table = record {
      url = url;
      id = iri;
      dialect = given.dialect;
      schema = body.schema;
      suppressed = suppressed;
      inherited = body.inherited;
      notes = notes;
      warnings = body.warnings ++ given.warnings;
    };
    keys = body.keys;
  })

abbrev pub no_table : TableFound
no_table = record {
  table = record {
    url = no_url;
    id = None;
    dialect = None;
    schema = None;
    suppressed = false;
    inherited = no_inherited;
    notes = [];
    warnings = [];
  };
  keys = None;
}

-- the table of this number in its group
abbrev pub table : Context → ℕ → List ℕ → Data → Read TableFound
table context number at d = on_object at d no_table (table_of context false number at d)
