-- One key more is counted, in two steps.
use Rattle.std.proofs.Common.{◌≡◌, ℕ, ◌+◌, suc, List, [], ◌∷◌, ◌++◌, Bool, true, false, Option, Some, None, refl, sym, ap, subst, ◌∙◌, add-one}
use Rattle.std.proofs.Common.{add-zero, cond, count_by, unwrap_or, arith}
use Rattle.std.specs.Cmp.{IsTotalOrder}
use Rattle.std.specs.Ordering.{is_eq}
use Rattle.std.specs.declared.cmp.Ordering.{Ordering}
use Rattle.std.specs.BTreeMap.{BTreeMap, get, UpdatesBy}
use Rattle.std.proofs.lemmas.Bool.{cond-true, cond-false}
use Rattle.std.proofs.lemmas.Cmp.{eq_by_cmp_equiv}
use Rattle.std.proofs.lemmas.List.Sums.{sum_by-append, sum_by-cons}
use Rattle.csvw_keys.specs.declared.times.Times.{Times}
use Rattle.csvw_keys.specs.declared.times.Times.TheVariants.{Never}
use Rattle.csvw_keys.specs.Tallies.{IsAheadAt, IsCounted, IsRaised, Tallies, count_of, times_at}
use Rattle.csvw_keys.specs.Times.{more, times}

none_before : (n : ℕ) → 0 + n ≡ n
none_before n = omega arith

count_by_end : {X : Type 0} (p : X → Bool) (xs : List X) (x : X) → count_by p (xs ++ x ∷ []) ≡ count_by p xs + cond (p x) 1 0
count_by_end p xs x = sum_by-append (λ y. cond (p y) 1 0) xs (x ∷ []) ∙ ap (λ n. count_by p xs + n) (none_before (cond (p x) 1 0))

one_more : (n : ℕ) (b : Bool) → b ≡ true → n + cond b 1 0 ≡ suc n
one_more n true e = add-one n
one_more n false e = cc

none_more : (n : ℕ) (b : Bool) → b ≡ false → n + cond b 1 0 ≡ n
none_more n true e = cc
none_more n false e = add-zero n

through : (b : Bool) (x : Times) (o : Option Times) → unwrap_or (cond b (Some x) o) Never ≡ cond b x (unwrap_or o Never)
through true x o = refl
through false x o = refl

module _ {K : Type 0} {cmp : K → K → Ordering} (order : IsTotalOrder cmp) where
  same_count : (a b : K) → is_eq (cmp a b) ≡ true → (keys : List K) → count_of cmp a keys ≡ count_of cmp b keys
  same_count a b e [] = refl
  same_count a b e (k ∷ ks) =
      sum_by-cons (λ y. cond (is_eq (cmp a y)) 1 0) k ks
      ∙ ap (λ c. cond c 1 0 + count_of cmp a ks) ((eq_by_cmp_equiv order).congr a b k e)
      ∙ ap (λ n. cond (is_eq (cmp b k)) 1 0 + n) (same_count a b e ks)
      ∙ sym (sum_by-cons (λ y. cond (is_eq (cmp b y)) 1 0) k ks)

  -- ---- the counts are ahead, and fall back

  module _ (old new : BTreeMap K Times) (key : K) (before : Times) (keys : List K) (was : before ≡ times_at cmp old key)
      (raised : IsRaised cmp old new key before) (tallies : Tallies cmp None old keys) where
    by_test : (q : K) (b : Bool) → is_eq (cmp key q) ≡ b → cond b before (times_at cmp new q) ≡ times (count_of cmp q keys)
    by_test q true e = was ∙ tallies.each key ∙ ap times (same_count key q e keys)
    by_test q false e = ap (λ o. unwrap_or o Never) (raised q ∙ cond-false _ _ _ e) ∙ tallies.each q

    pub keeps_ahead : Tallies cmp (Some (key, before)) new keys
    keeps_ahead = record {
      each = λ q. by_test q (is_eq (cmp key q)) refl;
      has_ahead = λ q e. raised q ∙ cond-true _ _ _ e;
    }

  pub unraised : (ahead : Option (K × Times)) (old new : BTreeMap K Times) (keys : List K) → ahead ≡ None
      → ((q : K) → get cmp new q ≡ get cmp old q) → Tallies cmp ahead old keys → Tallies cmp ahead new keys
  unraised None old new keys is same tallies = record {
    each = λ q. ap (λ o. unwrap_or o Never) (same q) ∙ tallies.each q;
    has_ahead = tt;
  }
  unraised (Some ahead) old new keys is same tallies = cc

  pub fallen : (m n : BTreeMap K Times) (key : K) (before : Times) (keys : List K) → UpdatesBy cmp (cmp key) m n (Some before)
      → Tallies cmp (Some (key, before)) m keys → Tallies cmp None n keys
  fallen m n key before keys updates tallies = record {
    each = λ q. ap (λ o. unwrap_or o Never) (updates.0 q) ∙ through (is_eq (cmp key q)) before (get cmp m q) ∙ tallies.each q;
    has_ahead = tt;
  }

  -- ---- the key that they are ahead by is counted

  module _ (counts : BTreeMap K Times) (key : K) (before : Times) (keys : List K) (tallies : Tallies cmp (Some (key, before)) counts keys) where
    itself : is_eq (cmp key key) ≡ true
    itself = (eq_by_cmp_equiv order).refl key

    before_key : before ≡ times (count_of cmp key keys)
    before_key = sym (cond-true _ _ _ itself) ∙ tallies.each key

    counted_at : (q : K) (b : Bool) → is_eq (cmp key q) ≡ b → times_at cmp counts q ≡ times (count_of cmp q (keys ++ key ∷ []))
    counted_at q true e =
        let turned : is_eq (cmp q key) ≡ true = (eq_by_cmp_equiv order).symm q key ∙ e in
        let count : count_of cmp q (keys ++ key ∷ []) ≡ suc (count_of cmp key keys) =
        count_by_end (λ k. is_eq (cmp q k)) keys key ∙ one_more _ _ turned ∙ ap suc (sym (same_count key q e keys)) in
        ap (λ o. unwrap_or o Never) (tallies.has_ahead q e) ∙ ap more before_key ∙ ap times (sym count)
    counted_at q false e =
        let turned : is_eq (cmp q key) ≡ false = (eq_by_cmp_equiv order).symm q key ∙ e in
        let count : count_of cmp q (keys ++ key ∷ []) ≡ count_of cmp q keys =
        count_by_end (λ k. is_eq (cmp q k)) keys key ∙ none_more _ _ turned in
        sym (cond-false _ _ _ e) ∙ tallies.each q ∙ ap times (sym count)

    counted : IsCounted cmp before None counts keys key
    counted = record {
      before_it = before_key;
      with_it = record { each = λ q. counted_at q (is_eq (cmp key q)) refl; has_ahead = tt };
    }

  pub counted_ahead : (counts : BTreeMap K Times) (ahead : Option (K × Times)) (held : K) (before : Times) (key : K) (keys : List K)
      → ahead ≡ Some (held, before) → IsAheadAt ahead key → Tallies cmp ahead counts keys → IsCounted cmp before None counts keys key
  counted_ahead counts ahead held before key keys is at tallies =
      let same : held ≡ key = subst (λ o. IsAheadAt o key) is at in
      subst (IsCounted cmp before None counts keys) same (counted counts held before keys (subst (λ o. Tallies cmp o counts keys) is tallies))
