-- Texts that equal an earlier text.
use Rattle.std.specs.Prelude.{ℕ, ◌+◌, ◌&&◌, Bool, List, [], ◌∷◌, ◌++◌, bytes_eq, if◌then◌else◌}
use Rattle.std.specs.List.{list_any}
use Rattle.csvw_meta_core.specs.declared.fault.MetaFault.{MetaFault}

-- The faults of the texts that equal an earlier one. Both texts must have been readable, which `known` says by the index. The first text here
-- has the index i.
abbrev pub repeated : (ℕ → Bool) → (ℕ → MetaFault) → List (List ℕ) → ℕ → List (List ℕ) → List MetaFault
repeated known fault before i [] = []
repeated known fault before i (t ∷ ts) =
    (if known i && list_any (λ u. bytes_eq u t) before then fault i ∷ [] else [])
    ++ repeated known fault (if known i then before ++ t ∷ [] else before) (i + 1) ts
