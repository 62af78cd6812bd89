-- Looking for the first fault of a list of things.
use Rattle.std.proofs.Common.{◌≡◌, ℕ, ◌+◌, ◌<◌, List, [], ◌∷◌, ◌++◌, length, take, drop, get_or, flat_map, Option, None, ap, sym, ◌∙◌, subst, suc}
use Rattle.std.proofs.Common.{add-one, drop-cons, Result, Ok, Err, MatchResult}
use Rattle.std.specs.Result.{IsErrAnd}
use Rattle.std.proofs.lemmas.Grind.{flat_map-append}
use Rattle.std.proofs.lemmas.List.{append-nil, take_more, take-append-drop}
use Rattle.csvw_meta_core.specs.declared.fault.MetaFault.{MetaFault}
use Rattle.csvw_meta_core.specs.declared.fault.Refusal.{Refusal}
use Rattle.csvw_meta_core.specs.Reads.{Fails}
use Rattle.csvw_meta_keys.specs.declared.foreign_key.ForeignKeyFound.{ForeignKeyFound}
use Rattle.csvw_meta_keys.specs.declared.naming.Target.{Target}
use Rattle.csvw_meta_keys.specs.Naming.{all_known, bad_reference, faults_to, foreign_faults, named}
use Rattle.csvw_meta_keys.proofs.ReadLemmas.{fails_first}

module _ {X : Type 0} (f : X → List MetaFault) (xs : List X) (i : ℕ) (x : X) (lt : i < length xs) (is : x ≡ get_or xs i x)
    (none : flat_map f (take i xs) ≡ []) where
  here : drop i xs ≡ x ∷ drop (i + 1) xs
  here = rw add-one (drop-cons xs i x lt ∙ ap (λ y. y ∷ drop (suc i) xs) (sym is))

  pub goes_on : f x ≡ [] → flat_map f (take (i + 1) xs) ≡ []
  goes_on fine =
      ap (flat_map f) (take_more xs i x lt ∙ ap (λ y. take i xs ++ y ∷ []) (sym is))
      ∙ flat_map-append f (take i xs) (x ∷ [])
      ∙ ap (λ fs. fs ++ flat_map f (x ∷ [])) none
      ∙ append-nil (f x)
      ∙ fine

  whole : flat_map f xs ≡ f x ++ flat_map f (drop (i + 1) xs)
  whole =
      ap (flat_map f) (sym (take-append-drop i xs))
      ∙ flat_map-append f (take i xs) (drop i xs)
      ∙ ap (λ fs. fs ++ flat_map f (drop i xs)) none
      ∙ ap (flat_map f) here

  pub ends : (e : Refusal) → Fails e (f x) → Fails e (flat_map f xs)
  ends e h = subst (Fails e) (sym whole) (fails_first e (f x) (flat_map f (drop (i + 1) xs)) h)

-- what a `?` returns
pub told : {A : Type 0} (result : Result A Refusal) (e : Refusal) (none : Type 0) (faults : List MetaFault)
    → IsErrAnd result (λ y. y ≡ e) → Fails e faults → MatchResult result (λ _. none) (λ y. Fails y faults)
told (Ok a) e none faults h f = absurd h
told (Err y) e none faults h f = subst (λ z. Fails z faults) (sym h) f

-- What comes after a part without faults decides alone.
pub behind : {A : Type 0} (result : Result A Refusal) (xs ys : List MetaFault) → xs ≡ [] → MatchResult result (λ _. ys ≡ []) (λ e. Fails e ys)
    → MatchResult result (λ _. xs ++ ys ≡ []) (λ e. Fails e (xs ++ ys))
behind result xs ys none h = subst (λ zs. MatchResult result (λ _. zs ++ ys ≡ []) (λ e. Fails e (zs ++ ys))) (sym none) h

-- A missing table is reported.
pub missing : (e : Refusal) (own : List (List ℕ)) (targets : List Target) (key : ForeignKeyFound) → named targets key.table ≡ None
    → Fails e (bad_reference key.table.at ∷ []) → Fails e (foreign_faults all_known own targets key)
missing e own targets key none h = subst (λ (found : Option Target). Fails e (faults_to all_known own key found)) (sym none) h
