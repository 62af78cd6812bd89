-- Which names of columns could be read (Metadata Vocabulary for Tabular Data, section 5.6). The name of a column is its `name` or, without
-- one, that of its `titles`.
use Rattle.std.specs.Prelude.{ℕ, ◌+◌, ◌&&◌, ◌||◌, not, List, [], ◌∷◌, Bool, false, is_none, drop, codes}
use Rattle.std.specs.List.{list_any}
use Rattle.csvw_description.specs.declared.column.ColumnDescription.{ColumnDescription}
use Rattle.csvw_meta_core.specs.declared.fault.MetaFault.{MetaFault}
use Rattle.csvw_meta_core.specs.Pointer.{below, item_at}
use Rattle.csvw_meta_core.specs.Rules.{is_at, is_within, hides_property}

-- a fault that hides the name of the column at this pointer
abbrev pub hides_name : List ℕ → ColumnDescription → MetaFault → Bool
hides_name at c f = hides_property at (codes "name") f || (is_none c.name && is_within (below at (codes "titles")) f)

-- a fault that hides that of the first of these columns, which has the index i
abbrev pub hides_first : List ℕ → ℕ → List ColumnDescription → MetaFault → Bool
hides_first at i [] f = false
hides_first at i (c ∷ cs) f = hides_name (item_at at i) c f

-- a fault that hides that of one of them
abbrev pub hides_one : List ℕ → ℕ → List ColumnDescription → MetaFault → Bool
hides_one at i [] f = false
hides_one at i (c ∷ cs) f = hides_name (item_at at i) c f || hides_one at (i + 1) cs f

-- The name of the column of this index could be read, among those in the array at this pointer.
abbrev pub name_known : List MetaFault → List ℕ → List ColumnDescription → ℕ → Bool
name_known faults at cs i = not (list_any (hides_first at i (drop i cs)) faults)

-- a fault that hides some name of the columns of the schema at this pointer
abbrev pub hides_declared : List ℕ → List ColumnDescription → MetaFault → Bool
hides_declared at cs f = is_at at f || (is_at (below at (codes "columns")) f || hides_one (below at (codes "columns")) 0 cs f)
