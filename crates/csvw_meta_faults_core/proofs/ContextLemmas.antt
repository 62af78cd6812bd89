-- A context with too many items.
use Rattle.std.proofs.Common.{◌≡◌, ◌≤◌, ℕ, List, [], ◌∷◌, length, refl, arith}
use Rattle.url.specs.Parts.{Parts}
use Rattle.serde_json.specs.View.{items_view}
use Rattle.serde_json.specs.declared.value.Value.{Value}
use Rattle.csvw_meta_core.specs.declared.fault.MetaCode.TheVariants.{BadContext}
use Rattle.csvw_meta_core.specs.Context.{other_items}

pub other_items-many : (base : Parts) (at : List ℕ) (vs : List Value) → 2 ≤ length vs
    → (other_items base at (items_view vs)).faults ≡ record { code = BadContext; pointer = at } ∷ []
other_items-many base at [] h = absurd (omega arith)
other_items-many base at (v ∷ []) h = absurd (omega arith)
other_items-many base at (v ∷ w ∷ vs) h = refl
