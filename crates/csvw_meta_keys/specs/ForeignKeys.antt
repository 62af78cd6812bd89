-- The foreign keys of a schema of a document, and their faults: `foreign_keys` (Metadata Vocabulary for Tabular Data, section
-- 5.5.2.1).
use Rattle.std.specs.Prelude.{ℕ, List, [], ◌∷◌, ◌++◌, codes}
use Rattle.serde_json.specs.Data.{Data}
use Rattle.url.specs.Parts.{Parts}
use Rattle.csvw_fault.specs.declared.fault.Fault.{Fault}
use Rattle.csvw_fault.specs.declared.fault.Place.{Place}
use Rattle.csvw_meta_core.specs.Read.{Read, fine, ◌>>=◌, needed, on_object}
use Rattle.csvw_meta_core.specs.Several.{several}
use Rattle.csvw_meta_core.specs.declared.profile.Profile.{Profile}
use Rattle.csvw_meta_core.specs.declared.others.CommonProperty.TheVariants.{Refused}
use Rattle.csvw_meta_core.specs.Others.{others}
use Rattle.csvw_meta_keys.specs.declared.column_names.KeyName.{KeyName}
use Rattle.csvw_meta_keys.specs.declared.foreign_key.ForeignKeyFound.{ForeignKeyFound}
use Rattle.csvw_meta_keys.specs.declared.reference.ReferenceFound.{ReferenceFound}
use Rattle.csvw_meta_keys.specs.ColumnNames.{column_names}
use Rattle.csvw_meta_keys.specs.References.{reference, no_reference, no_resource}
use Rattle.csvw_meta_keys.specs.declared.keys.TheConstants.{MAX_FOREIGN_KEYS}

abbrev pub foreign_key_names : List (List ℕ)
foreign_key_names = codes "columnReference" ∷ codes "reference" ∷ []

-- the foreign key at this pointer, with the warnings on it and then those on its reference
abbrev pub joined : List ℕ → List Fault → List KeyName → ReferenceFound → ForeignKeyFound
joined at warnings columns reference = record {
  at = at;
  columns = columns;
  table = reference.table;
  referenced = reference.columns;
  warnings = warnings ++ reference.warnings;
}

unfoldable pub foreign_key_of : Profile → Parts → Place → List ℕ → Data → Read ForeignKeyFound
foreign_key_of profile base place at d = do
  warnings ← others (foreign_key_names ++ []) Refused place at d
  columns ← needed column_names [] at d (codes "columnReference")
  reference ← needed (reference profile base place) (no_reference at) at d (codes "reference")
  fine (joined at warnings columns reference)

abbrev pub no_foreign_key : List ℕ → ForeignKeyFound
no_foreign_key at = record { at = at; columns = []; table = no_resource at; referenced = []; warnings = [] }

abbrev pub foreign_key : Profile → Parts → Place → List ℕ → Data → Read ForeignKeyFound
foreign_key profile base place at d = on_object at d (no_foreign_key at) (foreign_key_of profile base place at d)

-- an array of at most 64 foreign keys
abbrev pub foreign_keys : Profile → Parts → Place → List ℕ → Data → Read (List ForeignKeyFound)
foreign_keys profile base place at d = several 0 MAX_FOREIGN_KEYS (λ n. foreign_key profile base place) at d
