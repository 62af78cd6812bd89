-- What names the table of a reference.
use Rattle.std.proofs.Common.{◌≡◌, ℕ, List, false, Option, Some, None, is_some, codes, refl}
use Rattle.serde_json.specs.Data.{Data}
use Rattle.url.specs.Parts.{Parts}
use Rattle.csvw_meta_core.specs.Read.{needed}
use Rattle.csvw_meta_keys.specs.declared.reference.NamedTable.{NamedTable}
use Rattle.csvw_meta_keys.specs.References.{no_resource, resource, table_named}

pub by_resource : (base : Parts) (schema : Option NamedTable) (at : List ℕ) (d : Data) → is_some schema ≡ false
    → table_named base schema at d ≡ needed (resource base) (no_resource at) at d (codes "resource")
by_resource base None at d h = refl
by_resource base (Some table) at d h = cc
