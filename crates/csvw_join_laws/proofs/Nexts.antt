-- The next piece of a piece in its table goes on from it.
use Rattle.std.proofs.Common.{◌≡◌, ◌∙◌, ℕ, ◌≤◌, ◌==◌, Bool, true, false, cond, List, [], ◌∷◌, ◌++◌, Option, Some, None, refl, sym, ap, subst, arith, inl, inr, append_assoc}
use Rattle.std.specs.List.{All, find}
use Rattle.std.specs.Option.{option_or}
use Rattle.std.proofs.lemmas.List.Elements.{All-cons, All-head, All-nil, All-push, All-tail, All-weaker}
use Rattle.std.proofs.lemmas.List.Folds.{find-append}
use Rattle.csvw_part_plan.specs.Plans.{AreChained, GoesOn, TileFront, is_later}
use Rattle.csvw_part_plan.specs.declared.piece.Piece.{Piece}
use Rattle.csvw_parts.specs.PartRuns.{own_of}
use Rattle.csvw_join_laws.proofs.Chains.{Before, after_table, before_next, before_on, find-none, goes_later, not_later, tables_up}

found_by : (P : Piece → Type 0) (b : Bool) (x q : Piece) (rest : Option Piece) → cond b (Some x) rest ≡ Some q → P x → (rest ≡ Some q → P q) → P q
found_by P true x q rest is here on = let same : x ≡ q = cc in subst P same here
found_by P false x q rest is here on = on is

-- what is found is one of the items
pub found_has : (P : Piece → Type 0) (test : Piece → Bool) (xs : List Piece) (q : Piece) → find test xs ≡ Some q → All P xs → P q
found_has P test [] q is every = cc
found_has P test (x ∷ xs) q is every =
    found_by P (test x) x q (find test xs) is (All-head P x xs every) (λ on. found_has P test xs q on (All-tail P x xs every))

kept : (P : Piece → Type 0) (b : Bool) (p : Piece) (ps : List Piece) → P p → All P ps → All P (cond b (p ∷ ps) ps)
kept P true p ps has others = All-cons P p ps has others
kept P false p ps has others = others

-- what holds of all pieces holds of those of a part
pub own_have : (P : Piece → Type 0) (number : ℕ) (pieces : List Piece) → All P pieces → All P (own_of number pieces)
own_have P number [] every = every
own_have P number (p ∷ ps) every =
    kept P (p.part == number) p (own_of number ps) (All-head P p ps every) (own_have P number ps (All-tail P p ps every))

module _ (all : List Piece) where
  -- a later piece of the table goes on from this one, if there is one
  abbrev pub IsFollowed : Piece → Type 0
  IsFollowed p = (q : Piece) → find (is_later p) all ≡ Some q → GoesOn p q

  found_on : (front : List Piece) (p : Piece) (rest : List Piece) → all ≡ front ++ rest → All (Before p) front
      → find (is_later p) all ≡ find (is_later p) rest
  found_on front p rest parts before =
      let none = find-none (is_later p) front (All-weaker (Before p) (λ x. is_later p x ≡ false) (not_later p) front before) in
      ap (find (is_later p)) parts ∙ find-append (is_later p) front rest ∙ ap (λ (o : Option Piece). option_or o (find (is_later p) rest)) none

  followed : (p : Piece) → find (is_later p) all ≡ None → IsFollowed p
  followed p none q is = let never : None ≡ Some q = sym none ∙ is in cc

  followed_by : (p q : Piece) → GoesOn p q → find (is_later p) all ≡ Some q → IsFollowed p
  followed_by p q on found r is =
      let both : Some q ≡ Some r = sym found ∙ is in
      let same : q ≡ r = cc in
      subst (GoesOn p) same on

  nexts_from : (before : List Piece) (p : Piece) (ps : List Piece) → all ≡ (before ++ p ∷ []) ++ ps → All (Before p) (before ++ p ∷ []) → AreChained p ps
      → All IsFollowed (p ∷ ps)
  nexts_from before p [] parts so chain =
      All-cons IsFollowed p [] (followed p (found_on (before ++ p ∷ []) p [] parts so)) (All-nil IsFollowed)
  nexts_from before p (q ∷ qs) parts so chain =
      let front = before ++ p ∷ [] in
      let found = found_on front p (q ∷ qs) parts so in
      let parts' : all ≡ (front ++ q ∷ []) ++ qs = parts ∙ sym (append_assoc front (q ∷ []) qs) in
      elim chain.0.0 [
        | inl on ↦
            let is_next : find (is_later p) all ≡ Some q = found ∙ ap (λ b. cond b (Some q) (find (is_later p) qs)) (goes_later p q on) in
            let so' : All (Before q) front = All-weaker (Before p) (Before q) (λ x b. before_on p q x on b) front so in
            All-cons IsFollowed p (q ∷ qs) (followed_by p q on is_next)
            (nexts_from front q qs parts' (All-push (Before q) front q so' (inr (refl, omega arith))) chain.1)
        | inr next ↦
            let up = next.table in
            let above = All-weaker (λ (x : Piece). q.table ≤ x.table) (λ x. is_later p x ≡ false)
            (λ x le. after_table p x (omega (arith, le, up))) (q ∷ qs) (tables_up q qs chain.1) in
            let is_last : find (is_later p) all ≡ None = found ∙ find-none (is_later p) (q ∷ qs) above in
            let so' : All (Before q) front = All-weaker (Before p) (Before q) (λ x b. before_next p q x up b) front so in
            All-cons IsFollowed p (q ∷ qs) (followed p is_last)
            (nexts_from front q qs parts' (All-push (Before q) front q so' (inr (refl, omega arith))) chain.1)
      ]

  followed_of : (pieces : List Piece) → all ≡ pieces → TileFront pieces → All IsFollowed pieces
  followed_of [] parts tile = All-nil IsFollowed
  followed_of (p ∷ ps) parts tile =
      nexts_from [] p ps parts (All-push (Before p) [] p (All-nil (Before p)) (inr (refl, omega arith))) tile.1

-- each piece of a plan is followed by the one that goes on from it, or by none
pub all_followed : (all : List Piece) → TileFront all → All (IsFollowed all) all
all_followed all tile = followed_of all all refl tile
