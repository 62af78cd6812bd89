-- Items that are judged one after the other. The check doesn't find by itself what is left to judge.
use Rattle.std.proofs.Common.{◌≡◌, ℕ, ◌+◌, ◌<◌, ◌≤◌, ◌||◌, Bool, true, false, Option, Some, None, List, [], ◌∷◌, ◌++◌, length, nat_eq, not, drop, refl, sym, ap}
use Rattle.std.proofs.Common.{◌∙◌, get_or, suc, add-one, drop-cons, append_assoc, append-nil, option_map, option_to_list, arith}
use Rattle.std.proofs.lemmas.List.{drop_all}
use Rattle.serde_json.specs.Data.{Items, no_items, item}
use Rattle.serde_json.specs.View.{view, items_view}
use Rattle.serde_json.specs.declared.value.Value.{Value}
use Rattle.json.specs.Json.{Json}
use Rattle.csvw_meta_core.specs.declared.fault.MetaFault.{MetaFault}
use Rattle.csvw_meta_core.specs.Pointer.{item_at}
use Rattle.csvw_defaults.specs.Keeping.{IsLeft}
use Rattle.csvw_defaults.specs.Parts.{Rule, any_ignored, item_faults, kept_item, kept_items}
use Rattle.csvw_defaults.specs.Permitted.{has_items}
use Rattle.csvw_defaults.specs.Sources.{in_item}
use Rattle.csvw_defaults.specs.declared.kept.Kept.{Kept}

pub has_some : (vs : List Value) → has_items (items_view vs) ≡ not (nat_eq (length vs) 0)
has_some [] = refl
has_some (v ∷ vs) = grind arith

-- these items, and then those
abbrev before : List Value → Items → Items
before [] ds = ds
before (v ∷ vs) ds = item (view v) (before vs ds)

before_last : (vs : List Value) (v : Value) (ds : Items) → before (vs ++ v ∷ []) ds ≡ before vs (item (view v) ds)
before_last [] v ds = refl
before_last (x ∷ vs) v ds = ap (item (view x)) (before_last vs v ds)

before_none : (vs : List Value) → before vs no_items ≡ items_view vs
before_none [] = refl
before_none (v ∷ vs) = ap (item (view v)) (before_none vs)

-- one more item, if it is left
before_kept : (vs : List Value) (left : Option Value) (ds : Items) → before (vs ++ option_to_list left) ds ≡ before vs (kept_item (option_map view left) ds)
before_kept vs None ds = ap (λ xs. before xs ds) (append-nil vs)
before_kept vs (Some x) ds = before_last vs x ds

or_assoc : (a b c : Bool) → ((a || b) || c) ≡ (a || (b || c))
or_assoc true b c = refl
or_assoc false b c = refl

or_false : (a : Bool) → (a || false) ≡ a
or_false true = refl
or_false false = refl

here : (vs : List Value) (i : ℕ) (v : Value) → i < length vs → v ≡ get_or vs i v → drop i vs ≡ v ∷ drop (i + 1) vs
here vs i v lt e = rw add-one (drop-cons vs i v lt ∙ ap (λ x. x ∷ drop (suc i) vs) (sym e))

-- What is known of the first i items, with what the others become.
pub record Passed (rule : Rule) (at : List ℕ) (j : Option Json) (all : List Value) (old faults : List MetaFault) (left : List Value) (is_ignored : Bool) (i : ℕ) : Type 0 where
  pub faults_are : faults ++ item_faults rule at j i (items_view (drop i all)) ≡ old ++ item_faults rule at j 0 (items_view all)
  pub items_are : before left (kept_items rule at j i (items_view (drop i all))) ≡ kept_items rule at j 0 (items_view all)
  pub ignored_is : (is_ignored || any_ignored rule at j i (items_view (drop i all))) ≡ any_ignored rule at j 0 (items_view all)

module _ (rule : Rule) (at : List ℕ) (j : Option Json) (all : List Value) (old : List MetaFault) where
  pub begins : Passed rule at j all old old [] false 0
  begins = record { faults_are = refl; items_are = refl; ignored_is = refl }

  -- with the next item
  goes_past : (faults : List MetaFault) (left : List Value) (is_ignored : Bool) (i : ℕ) (v : Value) (rest : List Value) (kept : Kept)
      → faults ++ item_faults rule at j i (items_view (v ∷ rest)) ≡ old ++ item_faults rule at j 0 (items_view all)
      → before left (kept_items rule at j i (items_view (v ∷ rest))) ≡ kept_items rule at j 0 (items_view all)
      → (is_ignored || any_ignored rule at j i (items_view (v ∷ rest))) ≡ any_ignored rule at j 0 (items_view all)
      → IsLeft (rule (item_at at i) (in_item i j) (view v)) kept → rest ≡ drop (i + 1) all
      → Passed rule at j all old (faults ++ (rule (item_at at i) (in_item i j) (view v)).faults) (left ++ option_to_list kept.value) (is_ignored || kept.is_ignored) (i + 1)
  goes_past faults left is_ignored i v rest kept f x b is e =
      let r = rule (item_at at i) (in_item i j) (view v) in
      record {
        faults_are = rw (sym e) (append_assoc faults r.faults (item_faults rule at j (i + 1) (items_view rest)) ∙ f);
        items_are = rw (sym e) (before_kept left kept.value (kept_items rule at j (i + 1) (items_view rest)) ∙ rw is.value x);
        ignored_is = rw (sym e) (or_assoc is_ignored kept.is_ignored (any_ignored rule at j (i + 1) (items_view rest)) ∙ rw is.is_ignored b);
      }

  pub goes_on : (faults new : List MetaFault) (left : List Value) (is_ignored : Bool) (i : ℕ) (v : Value) (kept : Kept) → i < length all → v ≡ get_or all i v
      → Passed rule at j all old faults left is_ignored i → IsLeft (rule (item_at at i) (in_item i j) (view v)) kept → new ≡ faults ++ (rule (item_at at i) (in_item i j) (view v)).faults
      → Passed rule at j all old new (left ++ option_to_list kept.value) (is_ignored || kept.is_ignored) (i + 1)
  goes_on faults new left is_ignored i v kept lt at_i so_far is e =
      let step = here all i v lt at_i in
      rw e (goes_past faults left is_ignored i v (drop (i + 1) all) kept (rw step at so_far.faults_are) (rw step at so_far.items_are)
      (rw step at so_far.ignored_is) is refl)

  pub faults_done : (faults : List MetaFault) (left : List Value) (is_ignored : Bool) (i : ℕ) → length all ≤ i → Passed rule at j all old faults left is_ignored i
      → faults ≡ old ++ item_faults rule at j 0 (items_view all)
  faults_done faults left is_ignored i le so_far = sym (append-nil faults) ∙ rw (drop_all i all le) at so_far.faults_are

  pub items_done : (faults : List MetaFault) (left : List Value) (is_ignored : Bool) (i : ℕ) → length all ≤ i → Passed rule at j all old faults left is_ignored i
      → items_view left ≡ kept_items rule at j 0 (items_view all)
  items_done faults left is_ignored i le so_far = sym (before_none left) ∙ rw (drop_all i all le) at so_far.items_are

  pub ignored_done : (faults : List MetaFault) (left : List Value) (is_ignored : Bool) (i : ℕ) → length all ≤ i → Passed rule at j all old faults left is_ignored i
      → is_ignored ≡ any_ignored rule at j 0 (items_view all)
  ignored_done faults left is_ignored i le so_far = sym (or_false is_ignored) ∙ rw (drop_all i all le) at so_far.ignored_is
