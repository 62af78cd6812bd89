-- The names of columns in the keys and row titles of a document, and their faults (Metadata Vocabulary for Tabular Data, sections
-- 5.1.4 and 5.5).
use Rattle.std.specs.Prelude.{ℕ, List, [], ◌∷◌}
use Rattle.serde_json.specs.Data.{Data, null, boolean, number, string, array, object}
use Rattle.serde_json.specs.Find.{as_str}
use Rattle.csvw_meta_core.specs.Several.{some_items}
use Rattle.csvw_meta_core.specs.Read.{Read, fine, faulty, wrong, on_kind}
use Rattle.csvw_meta_core.specs.declared.fault.MetaCode.TheVariants.{NotSupported}
use Rattle.csvw_meta_core.specs.declared.profile.Profile.{Profile}
use Rattle.csvw_meta_core.specs.declared.profile.Profile.TheVariants.{Core, W3c}
use Rattle.csvw_meta_keys.specs.declared.column_names.KeyName.{KeyName}
use Rattle.csvw_meta_keys.specs.declared.column_names.TheConstants.{MAX_COLUMNS}

-- a name at this pointer
abbrev pub named_at : List ℕ → List ℕ → KeyName
named_at at name = record { name = name; at = at }

abbrev pub key_name : List ℕ → Data → Read KeyName
key_name at d = on_kind at d (named_at at []) (as_str d) (λ name. fine (named_at at name))

-- a name, or an array of 1 to 16 names
abbrev pub column_names : List ℕ → Data → Read (List KeyName)
column_names at (string name) = fine (named_at at name ∷ [])
column_names at (array ds) = some_items 1 MAX_COLUMNS (λ n. key_name) at ds
column_names at null = wrong at null []
column_names at (boolean b) = wrong at (boolean b) []
column_names at (number n) = wrong at (number n) []
column_names at (object ms) = wrong at (object ms) []

-- the columns whose values are titles of their rows; the profile Core does not support them
abbrev pub row_titles : Profile → List ℕ → Data → Read (List KeyName)
row_titles Core at d = faulty NotSupported at []
row_titles W3c at d = column_names at d
