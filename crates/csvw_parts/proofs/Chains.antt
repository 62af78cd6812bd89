-- Pieces that are read after others.
use Rattle.std.proofs.Common.{◌≡◌, ◌≢◌, ◌∙◌, ◌+◌, ◌<◌, ℕ, Bool, true, false, List, [], ◌∷◌, ◌++◌, add-one, ap, get_or, length, refl, sym, subst}
use Rattle.std.proofs.Common.{take, inl, inr}
use Rattle.std.proofs.Math.Seq.{take-suc}
use Rattle.std.proofs.lemmas.Bool.Decides.{eqb_tells}
use Rattle.std.proofs.lemmas.List.Elements.{filter-append}
use Rattle.std.specs.Prelude.{if◌then◌else◌, nat_eq}
use Rattle.csvw_part_plan.specs.declared.piece.Piece.{Piece}
use Rattle.csvw_parts.specs.Fronts.{Opens}
use Rattle.csvw_parts.specs.Outlets.{Outs}
use Rattle.csvw_parts.specs.PartRuns.{own_of}
use Rattle.csvw_parts.specs.PartSteps.{AddsPiece, AddsPieces, Reached}
use Rattle.csvw_parts.specs.declared.run.PartRequest.{PartRequest}

is_own : (a b : ℕ) → a ≡ b → nat_eq a b ≡ true
is_own a b e = elim (eqb_tells a b) as (λ _. nat_eq a b ≡ true) [ inl h ↦ h.0 | inr h ↦ absurd (h.1 e) ]

is_other : (a b : ℕ) → a ≢ b → nat_eq a b ≡ false
is_other a b ne = elim (eqb_tells a b) as (λ _. nat_eq a b ≡ false) [ inl h ↦ absurd (ne h.1) | inr h ↦ h.0 ]

one_own : (number : ℕ) (piece : Piece) (b : Bool) → nat_eq piece.part number ≡ b → own_of number (piece ∷ []) ≡ (if b then piece ∷ [] else [])
one_own number piece b e = ap (λ (x : Bool). if x then piece ∷ [] else []) e

-- the pieces of a part among one more
pub own_more : (number : ℕ) (items : List Piece) (n : ℕ) (d : Piece) → n < length items
    → own_of number (take (n + 1) items) ≡ own_of number (take n items) ++ own_of number (get_or items n d ∷ [])
own_more number items n d within =
    ap (λ (k : ℕ). own_of number (take k items)) (add-one n)
    ∙ ap (own_of number) (take-suc items n d within)
    ∙ filter-append (λ (piece : Piece). nat_eq piece.part number) (take n items) (get_or items n d ∷ [])

module _ {O R S W : Type 0} (opener : Opens O R) (out : Outs S W) (request : PartRequest) where
  pub adds_join : (pieces more : List Piece) (before between after : Reached O S W) → AddsPieces opener out request pieces before between
      → AddsPieces opener out request more between after → AddsPieces opener out request (pieces ++ more) before after
  adds_join [] more before between after e a = subst (λ (x : Reached O S W). AddsPieces opener out request more x after) e a
  adds_join (p ∷ pieces) more before between after c a =
      record { between = c.between; first = c.first; rest = adds_join pieces more c.between between after c.rest a }

  module _ (number : ℕ) (piece : Piece) (before after : Reached O S W) where
    pub adds_own : piece.part ≡ number → AddsPiece opener out request piece before after
        → AddsPieces opener out request (own_of number (piece ∷ [])) before after
    adds_own e a =
        subst (λ (l : List Piece). AddsPieces opener out request l before after)
        (sym (one_own number piece true (is_own piece.part number e)))
        (record { between = after; first = a; rest = refl })

    pub adds_none : piece.part ≢ number → after ≡ before → AddsPieces opener out request (own_of number (piece ∷ [])) before after
    adds_none ne e =
        subst (λ (l : List Piece). AddsPieces opener out request l before after)
        (sym (one_own number piece false (is_other piece.part number ne))) e
