-- The faults of the first ones of sorted records are faults of all of them.
use Rattle.std.proofs.Common.{◌≡◌, ℕ, zero, suc, ◌+◌, ◌<◌, Bool, true, false, ◌||◌, cond, List, [], ◌∷◌, ◌++◌, flat_map, get_or, length, refl, sym, ap, ap₂, ◌∙◌, append_assoc, append-nil, length-append, add-zero, arith}
use Rattle.std.specs.Cmp.Lexicographic.{slice_cmp}
use Rattle.std.specs.List.{All, count_by, list_any}
use Rattle.std.specs.List.Sorted.{IsPermutation}
use Rattle.std.specs.Ordering.{nat_cmp}
use Rattle.std.specs.declared.cmp.Ordering.TheVariants.{Less, Greater}
use Rattle.std.proofs.lemmas.List.{get_or-append-add, get_or_append_left}
use Rattle.std.proofs.lemmas.List.Concat.{flat_map-append}
use Rattle.std.proofs.lemmas.List.Elements.{All-weaker}
use Rattle.std.proofs.lemmas.List.Folds.{list_any-append}
use Rattle.std.proofs.lemmas.List.Sorted.{IsPermutation-append_left, IsPermutation-append_right, IsPermutation-refl, IsPermutation-trans}
use Rattle.std.proofs.lemmas.List.Sums.{sum_by-append}
use Rattle.csvw_fault.specs.declared.fault.Fault.{Fault}
use Rattle.csvw_key_records.specs.declared.record.KeyRecord.{KeyRecord}
use Rattle.csvw_key_records.specs.declared.record.Role.{Role}
use Rattle.csvw_key_records.specs.declared.record.Role.TheVariants.{Unique, Referenced, Refers}
use Rattle.csvw_key_records.specs.RecordFaults.{fault_by_count, faults_among, faults_by_role, is_earlier, is_referenced, is_referred, record_faults, same_key}
use Rattle.csvw_key_records.specs.RecordLaws.{KeepsFaults}
use Rattle.csvw_key_records.specs.Records.{line_of}
use Rattle.csvw_key_records.specs.Sorted.{AreSorted, IsBefore}
use Rattle.csvw_key_records.proofs.Counting.{count_none}
use Rattle.csvw_key_records.proofs.Effects.{by_earlier}
use Rattle.csvw_key_records.proofs.Orders.{refers_above}
use Rattle.csvw_key_records.proofs.Permuting.{blocks}
use Rattle.csvw_key_records.proofs.SameKeys.{both, not_both, same_to}

any_default : {X : Type 0} (xs : List X) (i : ℕ) (d e : X) → i < length xs → get_or xs i d ≡ get_or xs i e
any_default [] i d e within = absurd (omega arith)
any_default (x ∷ xs) zero d e within = refl
any_default (x ∷ xs) (suc i) d e within = any_default xs i d e (omega arith)

-- each of the first records comes before each of the others
cross : (records more : List KeyRecord) → AreSorted (records ++ more) → All (λ q. All (IsBefore q) more) records
cross records more sorted i d below j e within =
    let long = length-append records more in
    let pair = sorted i (length records + j) d (omega arith) (omega arith) in
    let first = get_or_append_left records more d i below in
    let second = get_or-append-add records more j d ∙ any_default more j d e within in
    sym (ap₂ (λ a b. slice_cmp nat_cmp (line_of a) (line_of b)) first second) ∙ pair

module _ {X A : Type 0} (f g : X → List A) where
  grown : (xs : List X) → All (λ q. (extra : List A) × (g q ≡ f q ++ extra)) xs → (later : List A) × IsPermutation (flat_map g xs) (flat_map f xs ++ later)
  grown [] all = ([], IsPermutation-refl [])
  grown (x ∷ xs) all =
      let here = all zero x (omega arith) in
      let others = grown xs (λ k d within. all (suc k) d (omega arith)) in
      let e = here.0 in
      let later = others.0 in
      let front : g x ++ flat_map g xs ≡ (f x ++ e) ++ flat_map g xs = ap (λ a. a ++ flat_map g xs) here.1 in
      let moved : IsPermutation (f x ++ (e ++ (flat_map f xs ++ later))) (f x ++ (flat_map f xs ++ (e ++ later))) =
      IsPermutation-append_right (f x) (e ++ (flat_map f xs ++ later)) (flat_map f xs ++ (e ++ later)) (blocks f e (flat_map f xs) later) in (
        e ++ later,
        rw (front, append_assoc (f x) e (flat_map g xs), append_assoc (f x) (flat_map f xs) (e ++ later))
            (IsPermutation-trans (f x ++ (e ++ flat_map g xs)) (f x ++ (e ++ (flat_map f xs ++ later))) (f x ++ (flat_map f xs ++ (e ++ later)))
            (IsPermutation-append_right (f x) (e ++ flat_map g xs) (e ++ (flat_map f xs ++ later))
            (IsPermutation-append_right e (flat_map g xs) (flat_map f xs ++ later) others.1)) moved),
      )

module _ (records more : List KeyRecord) (q : KeyRecord) (before : All (IsBefore q) more) where
  none_referred : q.role ≡ Refers → All (λ m. is_referred q m ≡ false) more
  none_referred role = All-weaker (IsBefore q) (λ m. is_referred q m ≡ false) (λ m below. not_both (is_referred q m) (λ is. apart m below is)) more before
    where
      referenced : (r : Role) → is_referenced r ≡ true → r ≡ Referenced
      referenced Unique is = cc
      referenced Referenced is = refl
      referenced Refers is = cc

      apart : (m : KeyRecord) → IsBefore q m → is_referred q m ≡ true → ⊥
      apart m below is =
          let parts = both (is_referenced m.role) (same_key q m) is in
          let same = same_to q m parts.1 in
          let above = refers_above q m role (referenced m.role parts.0) same.0 same.1 in
          let fails : Greater ≡ Less = sym above ∙ below in cc

  -- the faults of a record are the same among all, or there are some more
  more_faults : (extra : List Fault) × (faults_among (records ++ more) q ≡ faults_among records q ++ extra)
  more_faults = of q.role refl
    where
      earlier : (a b : Bool) → list_any (is_earlier q) records ≡ a → list_any (is_earlier q) more ≡ b
          → (extra : List Fault) × (by_earlier q.place (list_any (is_earlier q) (records ++ more)) ≡ by_earlier q.place (list_any (is_earlier q) records) ++ extra)
      earlier true b first second = (
        [],
        ap (by_earlier q.place) (list_any-append (is_earlier q) records more ∙ ap₂ (λ x y. x || y) first second)
            ∙ sym (append-nil (by_earlier q.place (list_any (is_earlier q) records)) ∙ ap (by_earlier q.place) first),
      )
      earlier false b first second = (
        by_earlier q.place b,
        ap (by_earlier q.place) (list_any-append (is_earlier q) records more ∙ ap₂ (λ x y. x || y) first second)
            ∙ ap (λ x. by_earlier q.place x ++ by_earlier q.place b) (sym first),
      )

      of : (role : Role) → q.role ≡ role → (extra : List Fault) × (faults_by_role (records ++ more) q role ≡ faults_by_role records q role ++ extra)
      of Unique role = earlier (list_any (is_earlier q) records) (list_any (is_earlier q) more) refl refl
      of Referenced role = ([], refl)
      of Refers role = (
        [],
        ap (fault_by_count q.place) (sum_by-append (λ m. cond (is_referred q m) 1 0) records more
            ∙ (ap (λ n. count_by (is_referred q) records + n) (count_none (is_referred q) more (none_referred role)) ∙ add-zero (count_by (is_referred q) records)))
            ∙ sym (append-nil (fault_by_count q.place (count_by (is_referred q) records))),
      )

pub keeps : KeepsFaults
keeps records more sorted =
    let all = cross records more sorted in
    let front = grown (faults_among records) (faults_among (records ++ more)) records
    (All-weaker (λ q. All (IsBefore q) more) (λ q. (extra : List Fault) × (faults_among (records ++ more) q ≡ faults_among records q ++ extra))
    (λ q before. more_faults records more q before) records all) in
    let last = flat_map (faults_among (records ++ more)) more in
    let parts = flat_map-append (faults_among (records ++ more)) records more in (
      front.0 ++ last,
      rw (parts, sym (append_assoc (record_faults records) front.0 last))
          (IsPermutation-append_left last (flat_map (faults_among (records ++ more)) records) (record_faults records ++ front.0) front.1),
    )
