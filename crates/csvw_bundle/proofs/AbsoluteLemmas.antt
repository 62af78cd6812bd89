-- Items and members with absolute links are these items and members, each with another value.
use Rattle.std.proofs.Common.{◌≡◌, ◌≤◌, ℕ, List, [], ◌∷◌, length, map, take, refl, ap, ◌∙◌}
use Rattle.std.proofs.lemmas.List.{take_all}
use Rattle.serde_json.specs.Data.{Members, no_members, member, item}
use Rattle.serde_json.specs.View.{view, items_of, items_view}
use Rattle.serde_json.specs.declared.value.Value.{Value}
use Rattle.url.specs.Parts.{Parts}
use Rattle.csvw_bundle.specs.Absolute.{absolute, absolute_items, absolute_members}
use Rattle.csvw_bundle.specs.Members.{map_members}

pub absolute_maps : (base : Parts) (ms : Members) → absolute_members base ms ≡ map_members (absolute base) ms
absolute_maps base no_members = refl
absolute_maps base (member k d ms) = ap (member k (absolute base k d)) (absolute_maps base ms)

items_absolute : (base : Parts) (vs : List Value) → items_of (map (λ v. absolute base [] (view v)) vs) ≡ absolute_items base (items_view vs)
items_absolute base [] = refl
items_absolute base (v ∷ vs) = ap (item (absolute base [] (view v))) (items_absolute base vs)

-- All items were copied.
pub are_absolute : (base : Parts) (n : ℕ) (vs ws : List Value) → length vs ≤ n → map view ws ≡ map (λ v. absolute base [] (view v)) (take n vs)
    → items_view ws ≡ absolute_items base (items_view vs)
are_absolute base n vs ws le same =
    ap items_of (same ∙ ap (map (λ v. absolute base [] (view v))) (take_all n vs le)) ∙ items_absolute base vs
