-- One more row has a fault if its key is among the keys so far.
use Rattle.std.proofs.Common.{◌≡◌, ℕ, ◌+◌, suc, List, [], ◌∷◌, ◌++◌, ◌||◌, Bool, true, false, refl, sym, ap, ◌∙◌, append_assoc, cond, map, arith}
use Rattle.std.proofs.Common.{Some, if◌then◌else◌}
use Rattle.std.specs.Ordering.{is_eq}
use Rattle.std.proofs.lemmas.List.{append-nil}
use Rattle.std.proofs.lemmas.List.Sums.{sum_by-cons}
use Rattle.csvw_annotate.specs.declared.row.Row.{Row}
use Rattle.csvw_fault.specs.declared.fault.Code.TheVariants.{DuplicateKey}
use Rattle.csvw_fault.specs.declared.fault.Fault.{Fault}
use Rattle.csvw_keys.specs.contracts.held.HeldKeyOrd.TheImpl as derived
use Rattle.csvw_keys.specs.declared.held.HeldKey.{HeldKey}
use Rattle.csvw_keys.specs.declared.key.KeyCell.{KeyCell}
use Rattle.csvw_keys.specs.declared.times.Times.{Times}
use Rattle.csvw_keys.specs.declared.times.Times.TheVariants.{Never, Once, Often}
use Rattle.csvw_keys.specs.Duplicates.{duplicate, duplicate_faults, duplicates_behind, is_among}
use Rattle.csvw_keys.specs.Held.{held}
use Rattle.csvw_keys.specs.Key.{key_of}
use Rattle.csvw_keys.specs.Places.{fault_of}
use Rattle.csvw_keys.specs.PrimaryBooks.{noted}
use Rattle.csvw_keys.specs.Tallies.{count_of}
use Rattle.csvw_keys.specs.Times.{more, times}
use Rattle.csvw_keys.proofs.HeldLemmas.{held_are}

noted_more : (t : Times) (fault : Fault) → noted (more t) fault ≡ fault ∷ []
noted_more Never fault = refl
noted_more Once fault = refl
noted_more Often fault = refl

one_more : (n : ℕ) → 1 + n ≡ suc n
one_more n = omega arith

no_more : (n : ℕ) → 0 + n ≡ n
no_more n = omega arith

abbrev key_count : List KeyCell → List (List KeyCell) → ℕ
key_count key keys = count_of derived.ghosts.cmp (held key) (map held keys)

module _ (key : List KeyCell) (fault : Fault) where
  by_first : (b c : Bool) (n : ℕ) → noted (times n) fault ≡ (if c then fault ∷ [] else [])
      → noted (times (cond b 1 0 + n)) fault ≡ (if b || c then fault ∷ [] else [])
  by_first true c n h = ap (λ k. noted (times k) fault) (one_more n) ∙ noted_more (times n) fault
  by_first false c n h = ap (λ k. noted (times k) fault) (no_more n) ∙ h

  pub told : (keys : List (List KeyCell)) → noted (times (key_count key keys)) fault ≡ (if is_among key keys then fault ∷ [] else [])
  told [] = refl
  told (k ∷ ks) =
      let test = is_eq (derived.ghosts.cmp (held key) (held k)) in
      ap (λ n. noted (times n) fault) (sum_by-cons (λ y. cond (is_eq (derived.ghosts.cmp (held key) y)) 1 0) (held k) (map held ks))
      ∙ by_first test (is_among key ks) (key_count key ks) (told ks)
      ∙ ap (λ b. if b || is_among key ks then fault ∷ [] else []) (sym (held_are key k))

module _ (table : ℕ) (columns : List ℕ) where
  pub at_end : (before : List (List KeyCell)) (rows : List Row) (row : Row)
      → duplicates_behind table columns before (rows ++ row ∷ [])
      ≡ duplicates_behind table columns before rows ++ duplicate table columns (before ++ map (key_of columns) rows) row
  at_end before [] row =
      append-nil (duplicate table columns before row) ∙ ap (λ keys. duplicate table columns keys row) (sym (append-nil before))
  at_end before (r ∷ rows) row =
      let first = duplicate table columns before r in
      let keys = before ++ key_of columns r ∷ [] in
      ap (λ faults. first ++ faults) (at_end keys rows row)
      ∙ sym (append_assoc first (duplicates_behind table columns keys rows) (duplicate table columns (keys ++ map (key_of columns) rows) row))
      ∙ ap (λ all. (first ++ duplicates_behind table columns keys rows) ++ duplicate table columns all row)
      (append_assoc before (key_of columns r ∷ []) (map (key_of columns) rows))

  pub faults_after : (rows : List Row) (row : Row) (t : Times) (fault : Fault) (found : List Fault)
      → t ≡ times (key_count (key_of columns row) (map (key_of columns) rows))
      → fault ≡ fault_of DuplicateKey table columns row.source
      → found ≡ duplicate_faults table columns rows
      → found ++ noted t fault ≡ duplicate_faults table columns (rows ++ row ∷ [])
  faults_after rows row t fault found times_are is so_far =
      let key = key_of columns row in
      let keys = map (key_of columns) rows in
      ap (λ fs. fs ++ noted t fault) so_far
      ∙ ap (λ u. duplicate_faults table columns rows ++ noted u fault) times_are
      ∙ ap (λ f. duplicate_faults table columns rows ++ noted (times (key_count key keys)) f) is
      ∙ ap (λ fs. duplicate_faults table columns rows ++ fs) (told key (fault_of DuplicateKey table columns row.source) keys)
      ∙ sym (at_end [] rows row)

pub some_same : (a b : HeldKey) → Some a ≡ Some b → a ≡ b
some_same a b h = cc
