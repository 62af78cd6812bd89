-- The items of lists.
use Rattle.std.proofs.Common.{◌≡◌, List, [], ◌∷◌, map, refl, sym, subst, inl, inr, ◌⊎◌, Contains, arith}
use Rattle.std.proofs.lemmas.List.Elements.{Contains-append_left, Contains-append_right, Contains-append_cases, Contains-push, Contains-push_cases}

pub none_in : {X : Type 0} (x : X) → Contains [] x → ⊥
none_in x h = let lt = h.1 in absurd (omega arith)

pub one_in : {X : Type 0} (y x : X) → Contains (y ∷ []) x → x ≡ y
one_in y x h = elim (Contains-push_cases [] y x h) [ inl k ↦ absurd (none_in x k) | inr e ↦ sym e ]

pub first_in : {X : Type 0} (y : X) (ys : List X) (x : X) → x ≡ y → Contains (y ∷ ys) x
first_in y ys x e = subst (λ z. Contains (y ∷ ys) z) (sym e) (Contains-append_left (y ∷ []) ys y (Contains-push [] y))

pub later_in : {X : Type 0} (y : X) (ys : List X) (x : X) → Contains ys x → Contains (y ∷ ys) x
later_in y ys x h = Contains-append_right (y ∷ []) ys x h

pub in_cons : {X : Type 0} (y : X) (ys : List X) (x : X) → Contains (y ∷ ys) x → (x ≡ y) ⊎ Contains ys x
in_cons y ys x h = elim (Contains-append_cases (y ∷ []) ys x h) [ inl k ↦ inl (one_in y x k) | inr k ↦ inr k ]

module _ {X Y : Type 0} (f : Y → X) where
  pub from_map : (ys : List Y) (x : X) → Contains (map f ys) x → (y : Y) × Contains ys y × (x ≡ f y)
  from_map [] x h = absurd (none_in x h)
  from_map (y ∷ ys) x h =
      elim (in_cons (f y) (map f ys) x h) [
        | inl e ↦ (y, first_in y ys y refl, e)
        | inr k ↦ let l = from_map ys x k in (l.0, later_in y ys l.0 l.1, l.2)
      ]

  pub to_map : (ys : List Y) (y : Y) (x : X) → Contains ys y → x ≡ f y → Contains (map f ys) x
  to_map [] y x h e = absurd (none_in y h)
  to_map (z ∷ ys) y x h e =
      elim (in_cons z ys y h) [
        | inl same ↦ first_in (f z) (map f ys) x (subst (λ w. x ≡ f w) same e)
        | inr k ↦ later_in (f z) (map f ys) x (to_map ys y x k e)
      ]
