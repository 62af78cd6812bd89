-- The schema that an object of a document describes, and its faults: `schema` (Metadata Vocabulary for Tabular Data, section
-- 5.5).
use Rattle.std.specs.Prelude.{ℕ, ◌+◌, ◌||◌, List, [], ◌++◌, Bool, false, None, codes, ◌∷◌}
use Rattle.serde_json.specs.Data.{Data}
use Rattle.csvw_description.specs.declared.column.ColumnDescription.{ColumnDescription}
use Rattle.csvw_fault.specs.declared.fault.Fault.{Fault}
use Rattle.csvw_description.specs.Name.{name_of, numbered_names}
use Rattle.csvw_meta_core.specs.declared.fault.MetaCode.TheVariants.{DuplicateName, VirtualOrder}
use Rattle.csvw_meta_core.specs.declared.fault.MetaFault.{MetaFault}
use Rattle.csvw_meta_core.specs.Pointer.{item_at}
use Rattle.csvw_meta_core.specs.Read.{Read, fine, ◌>>=◌, on_linked_object, property, optional}
use Rattle.csvw_meta_core.specs.Rules.{also, could_read_property}
use Rattle.csvw_meta_core.specs.Kinds.{fixed}
use Rattle.csvw_meta_core.specs.Links.{id}
use Rattle.csvw_meta_notes.specs.Unlisted.{unlisted}
use Rattle.csvw_meta_keys.specs.declared.keys.KeysFound.{KeysFound}
use Rattle.csvw_meta_keys.specs.Described.{names_of, all_warnings}
use Rattle.csvw_meta_keys.specs.Keys.{keys}
use Rattle.csvw_meta_keys.specs.Naming.{has_name}
use Rattle.csvw_meta_core.specs.declared.context.Context.{Context}
use Rattle.csvw_meta_inherited.specs.declared.inherited.InheritedFound.{InheritedFound}
use Rattle.csvw_meta.specs.declared.schema.SchemaFound.{SchemaFound}
use Rattle.csvw_meta.specs.Column.{column}
use Rattle.csvw_description.specs.Inherited.{no_inherited}
use Rattle.csvw_meta_inherited.specs.Inherited.{inherited}
use Rattle.csvw_meta_inherited.specs.Names.{inherited_names}
use Rattle.csvw_meta_notes.specs.Places.{place_of}
use Rattle.csvw_meta.specs.NamesRead.{name_known}
use Rattle.csvw_meta.specs.Repeated.{repeated}
use Rattle.csvw_meta_core.specs.Several.{several}
use Rattle.csvw_meta.specs.VirtualOrder.{misplaced}
use Rattle.csvw_meta.specs.declared.schema.TheConstants.{MAX_COLUMNS}

-- the properties of a schema
abbrev pub schema_names : List (List ℕ)
schema_names =
    codes "@id" ∷ codes "@type" ∷ codes "columns" ∷ codes "primaryKey" ∷ codes "foreignKeys" ∷ codes "rowTitles" ∷ []

-- Names are unique in a table. No two names are equal that could be read, which the columns' own faults show.
abbrev pub name_faults : List ℕ → List MetaFault → List ColumnDescription → List MetaFault
name_faults at faults cs =
    repeated (name_known faults at cs) (λ i. record { code = DuplicateName; pointer = item_at at i }) [] 0 (numbered_names 0 cs)

-- Virtual columns come last. Only columns whose `virtual` could be read count.
abbrev pub order_faults : List ℕ → List MetaFault → List ColumnDescription → List MetaFault
order_faults at faults cs =
    misplaced (λ i. could_read_property faults (item_at at i) (codes "virtual")) (λ i. record { code = VirtualOrder; pointer = item_at at i })
    false 0 cs

abbrev pub column_faults : List ℕ → List MetaFault → List ColumnDescription → List MetaFault
column_faults at faults cs = name_faults at faults cs ++ order_faults at faults cs

abbrev pub columns : Context → ℕ → List ℕ → Data → Read (List ColumnDescription)
columns context table at d = also (several 0 MAX_COLUMNS (column context table) at d) (column_faults at)

-- Whether the values of column n, from 1, are titles of their rows: they are already, or its name is among these.
abbrev pub is_row_title : List (List ℕ) → ℕ → ColumnDescription → Bool
is_row_title names n column = column.is_row_title || has_name names (name_of n column)

abbrev pub with_row_title : List (List ℕ) → ℕ → ColumnDescription → ColumnDescription
with_row_title names n column = record {
  name = column.name;
  titles = column.titles;
  is_virtual = column.is_virtual;
  suppressed = column.suppressed;
  is_row_title = is_row_title names n column;
  inherited = column.inherited;
  warnings = column.warnings;
}

-- columns, the first of which here has the index i
abbrev pub with_row_titles : List (List ℕ) → ℕ → List ColumnDescription → List ColumnDescription
with_row_titles names i [] = []
with_row_titles names i (c ∷ cs) = with_row_title names (i + 1) c ∷ with_row_titles names (i + 1) cs

-- A schema with its keys and row titles. The warnings on the keys come after its own. Its foreign keys are described once the tables of the group
-- are known.
abbrev pub with_keys : List ColumnDescription → InheritedFound → List Fault → KeysFound → SchemaFound
with_keys columns found warnings keys = record {
  schema = record {
    columns = with_row_titles (names_of keys.row_titles) 0 columns;
    primary_key = names_of keys.primary;
    foreign_keys = [];
    inherited = found.inherited;
    warnings = (found.warnings ++ warnings) ++ all_warnings keys.foreign;
  };
  keys = keys;
}

unfoldable pub schema_of : Context → ℕ → List ℕ → Data → Read SchemaFound
schema_of context table at d = do
  iri ← optional (id context.base) at d (codes "@id")
  type ← optional (fixed (codes "Schema")) at d (codes "@type")
  warnings ← unlisted context.base context.language (schema_names ++ inherited_names) (place_of table 0) at d
  columns ← property (columns context table) [] at d (codes "columns")
  found ← inherited context table 0 at d
  keys ← keys context.profile context.base (place_of table 0) iri at d
  fine (with_keys columns found warnings keys)

abbrev pub no_schema : SchemaFound
no_schema = record {
  schema = record { columns = []; primary_key = []; foreign_keys = []; inherited = no_inherited; warnings = [] };
  keys = record { id = None; primary = []; row_titles = []; foreign = [] };
}

-- the schema of a table, or of the group if the number is 0
abbrev pub schema : Context → ℕ → List ℕ → Data → Read SchemaFound
schema context table at d = on_linked_object at d no_schema (schema_of context table at d)
