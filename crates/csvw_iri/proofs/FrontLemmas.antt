-- A pass that continues after a front.
use Rattle.std.proofs.Common.{◌≡◌, ℕ, true, List, [], ◌∷◌, ◌++◌, Option, Some, None, inl, inr, refl, ap, sym, ◌∙◌, subst, append_assoc, take, drop, length}
use Rattle.std.proofs.lemmas.List.{take-append-drop}
use Rattle.std.specs.Prelude.{codes}
use Rattle.csvw_iri.specs.declared.own.Place.{Place}
use Rattle.csvw_iri.specs.declared.own.Place.TheVariants.{Front}
use Rattle.csvw_iri.specs.Own.{IsOfScheme, IsOwnFront, after, goes_on, step}

-- the pass over two parts is that over the second from where the first leads
pub goes_on-append : (from : Option Place) (xs ys : List ℕ) → goes_on from (xs ++ ys) ≡ goes_on (after from xs) ys
goes_on-append None xs ys = refl
goes_on-append (Some place) [] ys = refl
goes_on-append (Some place) (x ∷ xs) ys = goes_on-append (step place x) xs ys

longer : (text rest more : List ℕ) → IsOfScheme text rest → IsOfScheme (text ++ more) (rest ++ more)
longer text rest more (inl e) = inl (ap (λ t. t ++ more) e ∙ append_assoc (codes "http://") rest more)
longer text rest more (inr e) = inr (ap (λ t. t ++ more) e ∙ append_assoc (codes "https://") rest more)

-- what stands behind the scheme of a text that begins with a front
pub record GoesOn (text : List ℕ) : Type 0 where
  pub rest : List ℕ
  pub of_scheme : IsOfScheme text rest
  pub goes : goes_on (Some Front) rest ≡ true

pub goes_behind : (front : List ℕ) (place : Place) (more text : List ℕ) → IsOwnFront front place → text ≡ front ++ more
    → goes_on (Some place) more ≡ true → GoesOn text
goes_behind front place more text (rest, (of_scheme, reaches)) split goes =
    subst GoesOn (sym split) (record {
      rest = rest ++ more;
      of_scheme = longer front rest more of_scheme;
      goes = goes_on-append (Some Front) rest more ∙ ap (λ p. goes_on p more) reaches ∙ goes;
    })

-- a text whose first bytes are these, and what follows them
pub joined : (text first front rest : List ℕ) → front ≡ take (length first) text → rest ≡ drop (length first) text → front ≡ first
    → text ≡ first ++ rest
joined text first front rest is_front is_rest same =
    sym (take-append-drop (length first) text) ∙ ap (λ f. f ++ drop (length first) text) (sym is_front ∙ same) ∙ ap (λ r. first ++ r) (sym is_rest)
