-- The triples with their labels are the graph of the triples.
use Rattle.std.proofs.Common.{◌≡◌, List, [], ◌∷◌, sym, subst, arith, inl, inr, Contains, map}
use Rattle.std.proofs.lemmas.List.Elements.{Contains-append_left, Contains-append_right, Contains-append_cases, Contains-push, Contains-push_cases}
use Rattle.std.proofs.lemmas.List.Elements.{All-contains, All-from_recursion}
use Rattle.std.specs.List.{AllByRecursion}
use Rattle.csvw_triples_core.specs.declared.origin.Origin.{Origin}
use Rattle.csvw_triples_core.specs.declared.term.Triple.{Triple}
use Rattle.csvw_ntriples.specs.SameUpTo.{Occurs, SameUpTo}
use Rattle.csvw_ntriples.specs.Writable.{NodeFits, TermFits, TripleFits, IsOrigin}
use Rattle.csvw_ntriples.specs.Written.{label, said}
use Rattle.csvw_ntriples.proofs.LabelParts.{labels_differ}

mapped_in : {X Y : Type 0} (f : X → Y) (xs : List X) (x : X) → Contains xs x → Contains (map f xs) (f x)
mapped_in f [] x h = let lt = h.1 in absurd (omega arith)
mapped_in f (z ∷ xs) x h =
    elim (Contains-append_cases (z ∷ []) xs x h) [
      | inl k ↦ Contains-append_left (f z ∷ []) (map f xs) (f x) (elim (Contains-push_cases [] z x k) [
        | inl none ↦ let lt = none.1 in absurd (omega arith)
        | inr e ↦ subst (λ w. Contains (f z ∷ []) (f w)) e (Contains-push [] (f z))
      ])
      | inr k ↦ Contains-append_right (f z ∷ []) (map f xs) (f x) (mapped_in f xs x k)
    ]

from_mapped : {X Y : Type 0} (f : X → Y) (xs : List X) (y : Y) → Contains (map f xs) y → (x : X) × Contains xs x × (y ≡ f x)
from_mapped f [] y h = let lt = h.1 in absurd (omega arith)
from_mapped f (x ∷ xs) y h =
    elim (Contains-append_cases (f x ∷ []) (map f xs) y h) [
      | inl k ↦ elim (Contains-push_cases [] (f x) y k) [
        | inl none ↦ let lt = none.1 in absurd (omega arith)
        | inr e ↦ (x, Contains-append_left (x ∷ []) xs x (Contains-push [] x), sym e)
      ]
      | inr k ↦ let rest = from_mapped f xs y k in (rest.0, Contains-append_right (x ∷ []) xs rest.0 rest.1, rest.2)
    ]

-- a blank node of triples that fit has numbers that fit
origin_fits : (ts : List Triple) → AllByRecursion TripleFits ts → (o : Origin) → Occurs (Contains ts) o → IsOrigin o
origin_fits ts h o at =
    let fits = All-contains TripleFits ts at.0 (All-from_recursion TripleFits ts h) at.1 in
    elim at.2 [
      | inl e ↦ subst NodeFits e fits.0
      | inr e ↦ subst TermFits e fits.2
    ]

pub said_same : (ts : List Triple) → AllByRecursion TripleFits ts → SameUpTo (Contains ts) (map said ts)
said_same ts h = record {
  name = label;
  one_to_one = λ o p f g e. labels_differ o p (origin_fits ts h o f) (origin_fits ts h p g) e;
  whole = λ t k. mapped_in said ts t k;
  only = λ u k. from_mapped said ts u k;
}
