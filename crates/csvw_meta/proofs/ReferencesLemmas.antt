-- The faults of the keys of a group that could be read completely.
use Rattle.std.proofs.Common.{◌≡◌, ℕ, ◌+◌, List, [], ◌∷◌, ◌++◌, refl, ap, flat_map}
use Rattle.csvw_meta_core.specs.declared.fault.MetaFault.{MetaFault}
use Rattle.csvw_meta_keys.specs.declared.naming.Target.{Target}
use Rattle.csvw_meta_keys.specs.Naming.{all_known}
use Rattle.csvw_meta.specs.declared.group.GroupFound.{GroupFound}
use Rattle.csvw_meta.specs.declared.table.TableFound.{TableFound}
use Rattle.csvw_meta.specs.References.{known_faults, reference_faults, schema_faults, table_faults, targets}

abbrev own_faults : List Target → TableFound → List MetaFault
own_faults targets t = schema_faults all_known targets t.table.schema t.keys

all_tables : (targets : List Target) (i : ℕ) (ts : List TableFound)
    → table_faults (λ j schema. all_known) targets i ts ≡ flat_map (own_faults targets) ts
all_tables targets i [] = refl
all_tables targets i (t ∷ ts) = ap (λ (fs : List MetaFault). own_faults targets t ++ fs) (all_tables targets (i + 1) ts)

pub all_faults : (place : ℕ → List ℕ) (at : List ℕ) (g : GroupFound) → reference_faults place at [] g ≡ known_faults (targets g) g
all_faults place at g =
    ap (λ (fs : List MetaFault). schema_faults all_known (targets g) g.body.schema g.body.keys ++ fs) (all_tables (targets g) 0 g.tables)
