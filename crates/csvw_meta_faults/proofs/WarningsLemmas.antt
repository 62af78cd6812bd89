-- The warnings on a table or a group are no faults.
use Rattle.std.proofs.Common.{◌≡◌, ℕ, List, [], ◌++◌, Bool, true, false}
use Rattle.serde_json.specs.Data.{Data}
use Rattle.csvw_meta_inherited.specs.Names.{inherited_names}
use Rattle.csvw_meta_notes.specs.Places.{place_of}
use Rattle.csvw_meta_faults_core.specs.NoFaults.{all_warnings_none}
use Rattle.csvw_meta.specs.Table.{sole_table_names, table_names, table_others}

pub no_table_faults : (sole : Bool) (number : ℕ) (at : List ℕ) (d : Data) → (table_others sole number at d).faults ≡ []
no_table_faults true number at d = all_warnings_none (sole_table_names ++ inherited_names) (place_of 1 0) at d
no_table_faults false number at d = all_warnings_none (table_names ++ inherited_names) (place_of number 0) at d
