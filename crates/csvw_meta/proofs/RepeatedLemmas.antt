-- Looking for a text that an earlier one is equal to.
use Rattle.std.proofs.Common.{◌≡◌, ℕ, ◌+◌, ◌<◌, List, [], ◌∷◌, ◌++◌, length, take, drop, get_or, true}
use Rattle.std.proofs.Common.{false, bytes_eq, ap, sym, ◌∙◌, subst, suc, add-one, drop-cons, Contains, rules}
use Rattle.std.specs.List.{list_any}
use Rattle.std.proofs.lemmas.Bool.{cond-true, cond-false}
use Rattle.std.proofs.lemmas.List.{take_more}
use Rattle.std.proofs.lemmas.List.Elements.{Contains-append_left}
use Rattle.csvw_meta_core.specs.declared.fault.MetaFault.{MetaFault}
use Rattle.csvw_meta.specs.Repeated.{repeated}

module _ (fault : ℕ → MetaFault) (ts : List (List ℕ)) (i : ℕ) (t : List ℕ) (lt : i < length ts) (is : t ≡ get_or ts i t)
    (total : List MetaFault) (so_far : repeated (λ n. true) fault (take i ts) i (drop i ts) ≡ total) where
  here : drop i ts ≡ t ∷ drop (i + 1) ts
  here = rw add-one (drop-cons ts i t lt ∙ ap (λ x. x ∷ drop (suc i) ts) (sym is))

  more : take (i + 1) ts ≡ take i ts ++ t ∷ []
  more = take_more ts i t lt ∙ ap (λ x. take i ts ++ x ∷ []) (sym is)

  pub goes_on : list_any (λ u. bytes_eq u t) (take i ts) ≡ false → repeated (λ n. true) fault (take (i + 1) ts) (i + 1) (drop (i + 1) ts) ≡ total
  goes_on none =
      rw more (ap (λ (fs : List MetaFault). fs ++ repeated (λ n. true) fault (take i ts ++ t ∷ []) (i + 1) (drop (i + 1) ts))
      (sym (cond-false _ _ _ none)) ∙ (rw
      here at so_far))

  pub ends : list_any (λ u. bytes_eq u t) (take i ts) ≡ true → Contains total (fault i)
  ends some =
      let only : Contains (fault i ∷ []) (fault i) = search rules in
      subst (λ fs. Contains fs (fault i)) (rw here at so_far)
      (Contains-append_left _ _ (fault i) (subst (λ fs. Contains fs (fault i)) (sym (cond-true _ _ _ some)) only))
