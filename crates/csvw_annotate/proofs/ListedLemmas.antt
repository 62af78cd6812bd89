-- The items of a list, each with a comma after it.
use Rattle.std.proofs.Common.{◌≡◌, ℕ, zero, suc, ◌+◌, ◌<◌, ◌≤◌, List, [], ◌∷◌, ap, length, map, take, get_or, flat_map, add-one, arith, length-append}
use Rattle.csvw_template.specs.Name.{after_comma, listed}
use Rattle.csvw_cell.specs.declared.cell.Item.{Item}
use Rattle.csvw_annotate.specs.CellVariables.{item_text}

-- the number of bytes of items, each with a comma
abbrev pub with_commas : List Item → ℕ
with_commas items = length (flat_map after_comma (map item_text items))

one_more : (item : Item) (items : List Item) → with_commas (item ∷ items) ≡ with_commas items + (1 + length (item_text item))
one_more item items =
    let both = length-append (item_text item) (flat_map after_comma (map item_text items)) in
    omega arith

more : (items : List Item) (i : ℕ) (item : Item) → i < length items → item ≡ get_or items i item
    → with_commas (take (suc i) items) ≡ with_commas (take i items) + (1 + length (item_text item))
more [] i item lt is = absurd (omega (arith, lt))
more (x ∷ items) zero item lt is =
    let one = one_more x [] in
    let same = ap (λ (y : Item). length (item_text y)) is in
    omega arith
more (x ∷ items) (suc i) item lt is =
    let all = one_more x (take (suc i) items) in
    let front = one_more x (take i items) in
    let others = more items i item (omega (arith, lt)) is in
    omega arith

-- one more item
pub commas_more : (items : List Item) (i : ℕ) (item : Item) → i < length items → item ≡ get_or items i item
    → with_commas (take (i + 1) items) ≡ with_commas (take i items) + (1 + length (item_text item))
commas_more items i item lt is = rw add-one (more items i item lt is)

within : (items : List Item) (i : ℕ) (item : Item) → i < length items → item ≡ get_or items i item
    → with_commas (take i items) + (1 + length (item_text item)) ≤ with_commas items
within [] i item lt is = absurd (omega (arith, lt))
within (x ∷ items) zero item lt is =
    let one = one_more x items in
    let same = ap (λ (y : Item). length (item_text y)) is in
    omega arith
within (x ∷ items) (suc i) item lt is =
    let all = one_more x items in
    let front = one_more x (take i items) in
    let others = within items i item (omega (arith, lt)) is in
    omega arith

last_comma : (items : List Item) → with_commas items ≤ length (listed (map item_text items)) + 1
last_comma [] = omega arith
last_comma (x ∷ items) = omega arith

-- an item and those before it are no longer than the list
pub listed_at : (items : List Item) (i : ℕ) (item : Item) → i < length items → item ≡ get_or items i item
    → with_commas (take i items) + length (item_text item) ≤ length (listed (map item_text items))
listed_at items i item lt is =
    let some = within items i item lt is in
    let all = last_comma items in
    omega arith
