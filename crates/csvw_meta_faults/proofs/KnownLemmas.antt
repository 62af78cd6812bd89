-- Which faults hide a name or a URL, item after item as a loop does.
use Rattle.std.proofs.Common.{◌≡◌, ℕ, ◌+◌, ◌<◌, ◌≤◌, List, [], ◌∷◌, length, drop, get_or, Bool, true, false, ◌&&◌, not, is_some, is_none, Option}
use Rattle.std.proofs.Common.{Some, None, refl, sym, ap, ◌∙◌}
use Rattle.std.specs.List.{list_any}
use Rattle.std.proofs.lemmas.List.{drop_all}
use Rattle.csvw_description.specs.declared.column.ColumnDescription.{ColumnDescription}
use Rattle.csvw_meta_core.specs.declared.fault.MetaFault.{MetaFault}
use Rattle.csvw_meta_core.specs.Pointer.{item_at}
use Rattle.csvw_meta.specs.NamesRead.{hides_first, hides_name, hides_one, name_known}
use Rattle.csvw_meta_faults.proofs.AnyLemmas.{any_first, any_rest}
use Rattle.csvw_meta_faults.proofs.ItemsLemmas.{here}

none_any : {X : Type 0} (xs : List X) → list_any (λ x. false) xs ≡ false
none_any [] = refl
none_any (x ∷ xs) = none_any xs

module _ (at : List ℕ) (faults : List MetaFault) (total : Bool) (cs : List ColumnDescription) (i : ℕ) where
  module _ (c : ColumnDescription) (lt : i < length cs) (is : c ≡ get_or cs i c) (so_far : list_any (hides_one at i (drop i cs)) faults ≡ total) where
    now : list_any (hides_one at i (c ∷ drop (i + 1) cs)) faults ≡ total
    now = rw (here cs i c lt is) at so_far

    pub one_more : list_any (hides_name (item_at at i) c) faults ≡ false → list_any (hides_one at (i + 1) (drop (i + 1) cs)) faults ≡ total
    one_more miss = sym (any_rest (hides_name (item_at at i) c) (hides_one at (i + 1) (drop (i + 1) cs)) faults miss) ∙ now

    pub one_here : list_any (hides_name (item_at at i) c) faults ≡ true → true ≡ total
    one_here hit = sym (any_first (hides_name (item_at at i) c) (hides_one at (i + 1) (drop (i + 1) cs)) faults hit) ∙ now

  pub one_done : length cs ≤ i → list_any (hides_one at i (drop i cs)) faults ≡ total → false ≡ total
  one_done le so_far = let none : drop i cs ≡ [] = drop_all i cs le in sym (none_any faults) ∙ (rw none at so_far)

pub any_under : {X : Type 0} (b : Bool) (p : X → Bool) (xs : List X) → b ≡ true → list_any (λ x. b && p x) xs ≡ list_any p xs
any_under true p xs h = refl
any_under false p xs h = cc

pub none_of : {X : Type 0} (o : Option X) → is_some o ≡ false → is_none o ≡ true
none_of None h = refl
none_of (Some x) h = cc

-- whether the name of a column could be read
pub known_at : (faults : List MetaFault) (at : List ℕ) (cs : List ColumnDescription) (i : ℕ) (c : ColumnDescription) (hidden : Bool) →
    i < length cs → c ≡ get_or cs i c
    → hidden ≡ list_any (hides_name (item_at at i) c) faults → not hidden ≡ name_known faults at cs i
known_at faults at cs i c hidden lt is h = ap not h ∙ sym (ap (λ ds. not (list_any (hides_first at i ds) faults)) (here cs i c lt is))
