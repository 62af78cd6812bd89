-- Virtual columns come after all others: `misplaced` (Metadata Vocabulary for Tabular Data, section 5.6).
use Rattle.std.specs.Prelude.{ℕ, ◌+◌, List, [], ◌∷◌, ◌++◌, Bool, ◌||◌, ◌&&◌, not, if◌then◌else◌}
use Rattle.csvw_description.specs.declared.column.ColumnDescription.{ColumnDescription}
use Rattle.csvw_meta_core.specs.declared.fault.MetaFault.{MetaFault}

-- The faults of the columns that are not virtual and come after a virtual one. Whether a column is virtual could be read if `known` says so,
-- by its index. The first column here has the index i. `is_behind` says whether a virtual one comes before it.
abbrev pub misplaced : (ℕ → Bool) → (ℕ → MetaFault) → Bool → ℕ → List ColumnDescription → List MetaFault
misplaced known fault is_behind i [] = []
misplaced known fault is_behind i (c ∷ cs) =
    (if known i && (is_behind && not c.is_virtual) then fault i ∷ [] else [])
    ++ misplaced known fault (is_behind || (known i && c.is_virtual)) (i + 1) cs
