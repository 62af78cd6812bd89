-- The map of names and the list of columns have the same places.
use Rattle.std.proofs.Common.{◌≡◌, ◌∙◌, ℕ, ◌+◌, ◌<◌, zero, suc, Bool, true, false, cond, List, [], ◌∷◌, length, take, get_or, slice_get, find, Option, Some}
use Rattle.std.proofs.Common.{None}
use Rattle.std.proofs.Common.{refl, sym, ap, subst, arith, add-one, add-zero, is_some, ⊎_elim, true≢false, Bor}
use Rattle.std.specs.Prelude.{String, bytes_eq}
use Rattle.std.specs.Option.{option_copied, option_or}
use Rattle.std.specs.Slice.{IsItemAt}
use Rattle.std.specs.List.{position_from}
use Rattle.std.specs.Map.{update}
use Rattle.std.specs.HashMap.{HashMap, get_by_text}
use Rattle.std.specs.Cmp.Lexicographic.{bytes_decides}
use Rattle.std.proofs.lemmas.Bool.{cases_Bool, cond-true, cond-false}
use Rattle.std.proofs.lemmas.Option.{slice_get-get_or, slice_get_past}
use Rattle.csvw_columns_core.specs.declared.column.Column.{Column}
use Rattle.csvw_columns_core.specs.ByName.{ArePlaces, AddsPlace, place_of}

or_none : {X : Type 0} (o : Option X) → option_or o None ≡ o
or_none None = refl
or_none (Some x) = refl

same_number : (n i : ℕ) → (n + 1) + i ≡ n + suc i
same_number n i = omega arith

-- behind an element that is found or isn't
behind : (b : Bool) (n : ℕ) (more so_far one : Option ℕ) → more ≡ option_or so_far one → cond b (Some n) more ≡ option_or (cond b (Some n) so_far) one
behind true n more so_far one e = refl
behind false n more so_far one e = e

module _ {X : Type 0} (test : X → Bool) where
  -- one element more
  position_more : (n : ℕ) (xs : List X) (i : ℕ) (d : X) → i < length xs
      → position_from test n (take (suc i) xs) ≡ option_or (position_from test n (take i xs)) (cond (test (get_or xs i d)) (Some (n + i)) None)
  position_more n [] i d h = absurd (omega (arith, h))
  position_more n (x ∷ xs) zero d h = ap (λ k. cond (test x) (Some k) None) (sym (add-zero n))
  position_more n (x ∷ xs) (suc i) d h =
      behind (test x) n (position_from test (n + 1) (take (suc i) xs)) (position_from test (n + 1) (take i xs))
      (cond (test (get_or xs i d)) (Some (n + suc i)) None)
      (position_more (n + 1) xs i d (omega (arith, h))
      ∙ ap (λ k. option_or (position_from test (n + 1) (take i xs)) (cond (test (get_or xs i d)) (Some k) None)) (same_number n i))

  -- what stands at the place that was found, where places begin at n
  record IsFound (n : ℕ) (xs : List X) (found : Option X) (place : ℕ) : Type 0 where
    pub at : ℕ
    pub is_place : place ≡ n + at
    pub is : found ≡ slice_get xs at

  abbrev Finds : ℕ → List X → Option X → Option ℕ → Type 0
  Finds n xs found None = found ≡ None
  Finds n xs found (Some place) = IsFound n xs found place

  later : (n : ℕ) (x : X) (xs : List X) (found : Option X) (o : Option ℕ) → Finds (n + 1) xs found o → Finds n (x ∷ xs) found o
  later n x xs found None f = f
  later n x xs found (Some place) f = record { at = suc f.at; is_place = f.is_place ∙ same_number n f.at; is = f.is }

  finds_by : (b : Bool) (n : ℕ) (x : X) (xs : List X) (found : Option X) (o : Option ℕ) → Finds (n + 1) xs found o
      → Finds n (x ∷ xs) (cond b (Some x) found) (cond b (Some n) o)
  finds_by true n x xs found o f = record { at = 0; is_place = sym (add-zero n); is = refl }
  finds_by false n x xs found o f = later n x xs found o f

  finds : (n : ℕ) (xs : List X) → Finds n xs (find test xs) (position_from test n xs)
  finds n [] = refl
  finds n (x ∷ xs) = finds_by (test x) n x xs (find test xs) (position_from test (n + 1) xs) (finds (n + 1) xs)

  none_found : (xs : List X) (o : Option ℕ) → o ≡ None → Finds 0 xs (find test xs) o → find test xs ≡ None
  none_found xs None e f = f
  none_found xs (Some place) e f = cc

  place_found : (xs : List X) (o : Option ℕ) (place : ℕ) → o ≡ Some place → Finds 0 xs (find test xs) o → find test xs ≡ slice_get xs place
  place_found xs None place e f = cc
  place_found xs (Some other) place e f =
      let same : other ≡ place = cc in
      let at : f.at ≡ place = omega (arith, f.is_place, same) in
      f.is ∙ ap (slice_get xs) at

-- ---- one column more

same_name : (name other : List ℕ) → bytes_eq name other ≡ true → name ≡ other
same_name name other e = (bytes_decides name other).0 e

module _ {Y S : Type 0} (old : HashMap (String Y) ℕ S) (column : Column) (place : ℕ) where
  -- the name has none
  pub adds_place : (new : HashMap (String Y) ℕ S) → is_some (get_by_text old column.name) ≡ false
      → ((name : List ℕ) → get_by_text new name ≡ update bytes_eq (get_by_text old) column.name (Some place) name) → AddsPlace old new column place
  adds_place new absent updates name =
      ⊎_elim (λ (e : bytes_eq column.name name ≡ true).
      let here = subst (λ n. is_some (get_by_text old n) ≡ false) (same_name column.name name e) absent in
      updates name ∙ cond-true _ _ _ e ∙ sym (ap (λ o. option_or (get_by_text old name) o) (cond-true _ _ _ e) ∙ unknown (get_by_text old name) _ here))
      (λ (e : bytes_eq column.name name ≡ false).
      updates name ∙ cond-false _ _ _ e
      ∙ sym (ap (λ o. option_or (get_by_text old name) o) (cond-false _ _ _ e) ∙ or_none (get_by_text old name)))
      (cases_Bool (bytes_eq column.name name))
    where
      unknown : (o p : Option ℕ) → is_some o ≡ false → option_or o p ≡ p
      unknown None p e = refl
      unknown (Some x) p e = absurd (true≢false e)

-- the places of the columns so far, and one column more
pub one_place_more : {Y S : Type 0} (old new : HashMap (String Y) ℕ S) (columns : List Column) (i : ℕ) (column : Column)
    → i < length columns → column ≡ get_or columns i column → ArePlaces (take i columns) old → AddsPlace old new column i → ArePlaces (take (i + 1) columns) new
one_place_more old new columns i column h is so_far adds name =
    let test : Column → Bool = λ c. bytes_eq c.name name in
    adds name
    ∙ ap (λ o. option_or o (cond (test column) (Some i) None)) (so_far name)
    ∙ ap (λ (c : Column). option_or (place_of (take i columns) name) (cond (bytes_eq c.name name) (Some i) None)) is
    ∙ ap (λ k. option_or (place_of (take i columns) name) (cond (test (get_or columns i column)) (Some k) None)) (sym (from_zero i))
    ∙ sym (position_more test 0 columns i column h)
    ∙ ap (λ n. place_of (take n columns) name) (sym (add-one i))
  where
    from_zero : (i : ℕ) → 0 + i ≡ i
    from_zero i = omega arith

-- ---- the column at a place

pub no_place : (columns : List Column) (name : List ℕ) → place_of columns name ≡ None → find (λ (c : Column). bytes_eq c.name name) columns ≡ None
no_place columns name e =
    let test : Column → Bool = λ c. bytes_eq c.name name in
    none_found test columns (place_of columns name) e (finds test 0 columns)

pub at_place : (columns : List Column) (name : List ℕ) (place : ℕ) → place_of columns name ≡ Some place
    → find (λ (c : Column). bytes_eq c.name name) columns ≡ slice_get columns place
at_place columns name place e =
    let test : Column → Bool = λ c. bytes_eq c.name name in
    place_found test columns (place_of columns name) place e (finds test 0 columns)

-- what a slice lends at a place
pub lent_at : {X : Type 0} (xs : List X) (i : ℕ) (r : Option (Bor X)) → IsItemAt xs i r → option_copied r ≡ slice_get xs i
lent_at xs i None h = sym (slice_get_past xs i h.3)
lent_at xs i (Some x) h = ap Some h.1 ∙ sym (slice_get-get_or xs i x.now h.3.0)
