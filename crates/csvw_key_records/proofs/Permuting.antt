-- The same records in another order have the same faults, in some order.
use Rattle.std.proofs.Common.{◌≡◌, ℕ, zero, suc, ◌<◌, List, [], ◌∷◌, ◌++◌, flat_map, get_or, set, length, cond, refl, sym, ap, subst, append_assoc, arith}
use Rattle.std.specs.List.{swap}
use Rattle.std.specs.List.Sorted.{IsPermutation}
use Rattle.std.proofs.lemmas.List.Sorted.{IsPermutation-append_comm, IsPermutation-append_left, IsPermutation-append_right, IsPermutation-keeps, IsPermutation-refl, IsPermutation-trans, list_any-IsPermutation, sum_by-IsPermutation}
use Rattle.csvw_key_records.specs.declared.record.KeyRecord.{KeyRecord}
use Rattle.csvw_key_records.specs.declared.record.Role.{Role}
use Rattle.csvw_key_records.specs.declared.record.Role.TheVariants.{Unique, Referenced, Refers}
use Rattle.csvw_key_records.specs.RecordFaults.{fault_by_count, faults_among, faults_by_role, is_earlier, is_referred, record_faults}
use Rattle.csvw_key_records.specs.RecordLaws.{PermutesFaults}
use Rattle.csvw_key_records.proofs.Counting.{flat_same}
use Rattle.csvw_key_records.proofs.Effects.{by_earlier}

module _ {X A : Type 0} (f : X → List A) where
  pub blocks : (a b c : List A) → IsPermutation (a ++ (b ++ c)) (b ++ (a ++ c))
  blocks a b c = rw (sym (append_assoc a b c), sym (append_assoc b a c)) (IsPermutation-append_left c (a ++ b) (b ++ a) (IsPermutation-append_comm a b))

  -- an item in front and one of the list change their places
  exchange : (d y : X) (xs : List X) (i : ℕ) → i < length xs → IsPermutation (f y ++ flat_map f xs) (f (get_or xs i d) ++ flat_map f (set xs i y))
  exchange d y [] i within = absurd (omega arith)
  exchange d y (x ∷ xs) zero within = blocks (f y) (f x) (flat_map f xs)
  exchange d y (x ∷ xs) (suc i) within =
      let here = f (get_or xs i d) in
      let rest = flat_map f (set xs i y) in
      IsPermutation-trans (f y ++ (f x ++ flat_map f xs)) (f x ++ (f y ++ flat_map f xs)) (here ++ (f x ++ rest)) (blocks (f y) (f x) (flat_map f xs))
      (IsPermutation-trans (f x ++ (f y ++ flat_map f xs)) (f x ++ (here ++ rest)) (here ++ (f x ++ rest))
      (IsPermutation-append_right (f x) (f y ++ flat_map f xs) (here ++ rest) (exchange d y xs i (omega arith))) (blocks (f x) here rest))

  swapped : (d : X) (xs : List X) (i j : ℕ) → i < length xs → j < length xs
      → IsPermutation (flat_map f xs) (flat_map f (set (set xs i (get_or xs j d)) j (get_or xs i d)))
  swapped d [] i j p q = absurd (omega arith)
  swapped d (x ∷ xs) zero zero p q = IsPermutation-refl (flat_map f (x ∷ xs))
  swapped d (x ∷ xs) zero (suc j) p q = exchange d x xs j (omega arith)
  swapped d (x ∷ xs) (suc i) zero p q = exchange d x xs i (omega arith)
  swapped d (x ∷ xs) (suc i) (suc j) p q =
      IsPermutation-append_right (f x) (flat_map f xs) (flat_map f (set (set xs i (get_or xs j d)) j (get_or xs i d))) (swapped d xs i j (omega arith) (omega arith))

  swap_flat : (xs : List X) (i j : ℕ) → i < length xs → j < length xs → IsPermutation (flat_map f xs) (flat_map f (swap xs i j))
  swap_flat [] i j p q = IsPermutation-refl []
  swap_flat (x ∷ xs) i j p q = swapped x (x ∷ xs) i j p q

  pub flat_permutes : (xs ys : List X) → IsPermutation xs ys → IsPermutation (flat_map f xs) (flat_map f ys)
  flat_permutes xs ys same =
      IsPermutation-keeps xs (λ l. IsPermutation (flat_map f xs) (flat_map f l)) (IsPermutation-refl (flat_map f xs))
      (λ l i j p q known. IsPermutation-trans (flat_map f xs) (flat_map f l) (flat_map f (swap l i j)) known (swap_flat l i j p q)) ys same

-- the faults of a record are the same among the same records
among_same : (xs ys : List KeyRecord) → IsPermutation xs ys → (r : KeyRecord) → faults_among ys r ≡ faults_among xs r
among_same xs ys same r = of r.role
  where
    of : (role : Role) → faults_by_role ys r role ≡ faults_by_role xs r role
    of Unique = ap (by_earlier r.place) (sym (list_any-IsPermutation (is_earlier r) xs ys same))
    of Referenced = refl
    of Refers = ap (fault_by_count r.place) (sum_by-IsPermutation (λ q. cond (is_referred r q) 1 0) xs ys same)

pub permutes : PermutesFaults
permutes xs ys same =
    subst (IsPermutation (record_faults xs)) (sym (flat_same (faults_among xs) (faults_among ys) ys (λ k d within. among_same xs ys same (get_or ys k d))))
    (flat_permutes (faults_among xs) xs ys same)
