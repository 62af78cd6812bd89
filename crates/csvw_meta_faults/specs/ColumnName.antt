-- The declared name of a column has at most one fault, and the empty name stands in: `name_has_one`, `name_stands_in` (Metadata
-- Vocabulary for Tabular Data, section 5.6).
use Rattle.std.specs.Prelude.{ℕ, List, [], if◌then◌else◌, refl}
use Rattle.serde_json.specs.Data.{Data}
use Rattle.serde_json.specs.Find.{as_str}
use Rattle.csvw_meta_core.specs.declared.fault.MetaCode.TheVariants.{BadName, BadProperty}
use Rattle.csvw_meta_core.specs.Read.{fine, faulty}
use Rattle.csvw_meta.specs.DeclaredName.{is_declared, name}
use Rattle.csvw_meta_faults_core.specs.Sole.{AtMostOne, of_kind, of_test}
use Rattle.csvw_meta_faults_core.specs.StandsIn.{StandsIn}
use Rattle.csvw_meta_faults_parts.specs.Leaves.{in_kind, in_test}

pub name_has_one : (at : List ℕ) (d : Data) → AtMostOne (name at d).faults
name_has_one at d =
    of_kind BadProperty at d [] (as_str d) (λ s. if is_declared s then fine s else faulty BadName at [])
    (λ s. of_test (is_declared s) (fine s) (faulty BadName at []) tt tt)

pub name_stands_in : (at : List ℕ) (d : Data) → StandsIn [] (name at d)
name_stands_in at d =
    in_kind BadProperty at d [] (as_str d) (λ s. if is_declared s then fine s else faulty BadName at [])
    (λ s. in_test [] (is_declared s) (fine s) (faulty BadName at []) tt refl)
