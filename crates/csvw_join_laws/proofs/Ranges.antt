-- The pieces of all parts, part by part, are all pieces in order, since the parts of a plan go up one by one.
use Rattle.std.proofs.Common.{◌≡◌, ◌∙◌, ℕ, zero, suc, ◌+◌, ◌-◌, ◌<◌, ◌≤◌, ◌==◌, true, false, cond, List, [], ◌∷◌, ◌++◌, Some, refl, sym, ap, ap₂, arith, inl, inr, append_assoc, flat_map, length}
use Rattle.std.specs.Prelude.{filter, slice_get}
use Rattle.std.specs.List.{All}
use Rattle.std.proofs.Math.Nat.{eq-or-lt_of_le}
use Rattle.std.proofs.lemmas.Bool.Decides.{nat_tests}
use Rattle.std.proofs.lemmas.List.Elements.{All-cons, All-head, All-nil, All-tail, All-weaker}
use Rattle.csvw_part_plan.specs.Plans.{AreChained, Follows, TileFront, last_piece, part_count, part_of}
use Rattle.csvw_part_plan.specs.declared.piece.Piece.{Piece}
use Rattle.csvw_join_laws.specs.AllParts.{numbers}
use Rattle.csvw_join_laws.specs.Joining.{Planned, TablePiece, pieces_of}
use Rattle.csvw_join_laws.specs.PlanPieces.{part_pieces, parts_from, parts_of, table_pieces}

abbrev pub last : Piece → List Piece → Piece
last p [] = p
last p (q ∷ qs) = last q qs

pub last_piece-cons : (p : Piece) (ps : List Piece) → last_piece (p ∷ ps) ≡ Some (last p ps)
last_piece-cons p [] = refl
last_piece-cons p (q ∷ qs) =
    let at : length (p ∷ q ∷ qs) - 1 ≡ suc (length (q ∷ qs) - 1) = omega arith in
    ap (slice_get (p ∷ q ∷ qs)) at ∙ last_piece-cons q qs

pub part_up : (p q : Piece) → Follows p q → p.part ≤ q.part
part_up p q follows =
    elim follows.0 [
      | inl on ↦ let part = on.part in omega arith
      | inr next ↦ elim next.part [ inl same ↦ omega arith | inr more ↦ omega arith ]
    ]

-- the parts of a chain go up
parts_up : (p : Piece) (ps : List Piece) → AreChained p ps → All (λ x. p.part ≤ x.part) ps
parts_up p [] chain = All-nil (λ (x : Piece). p.part ≤ x.part)
parts_up p (q ∷ qs) chain =
    let from = λ (x : Piece). p.part ≤ x.part in
    let up = part_up p q chain.0 in
    All-cons from q qs up (All-weaker (λ (x : Piece). q.part ≤ x.part) from (λ x le. omega (arith, le, up)) qs (parts_up q qs chain.1))

pub last_up : (p : Piece) (ps : List Piece) → AreChained p ps → p.part ≤ (last p ps).part
last_up p [] chain = omega arith
last_up p (q ∷ qs) chain = let up = part_up p q chain.0 in let more = last_up q qs chain.1 in omega arith

module _ {Y : Type 0} (item : Piece → List Y) where
  -- the pieces of so many parts from one on
  abbrev by_range : List Piece → ℕ → ℕ → List Y
  by_range ps k zero = []
  by_range ps k (suc n) = flat_map item (filter (λ p. p.part == k) ps) ++ by_range ps (suc k) n

  no_range : (k n : ℕ) → by_range [] k n ≡ []
  no_range k zero = refl
  no_range k (suc n) = no_range (suc k) n

  abbrev of_part : ℕ → List Piece → List Piece
  of_part k ps = filter (λ p. p.part == k) ps

  other_part : (p : Piece) (ps : List Piece) (k : ℕ) → (p.part == k) ≡ false → of_part k (p ∷ ps) ≡ of_part k ps
  other_part p ps k other = ap (λ b. cond b (p ∷ of_part k ps) (of_part k ps)) other

  this_part : (p : Piece) (ps : List Piece) (k : ℕ) → (p.part == k) ≡ true → of_part k (p ∷ ps) ≡ p ∷ of_part k ps
  this_part p ps k same = ap (λ b. cond b (p ∷ of_part k ps) (of_part k ps)) same

  none_of_part : (ps : List Piece) (k : ℕ) → All (λ x. k < x.part) ps → of_part k ps ≡ []
  none_of_part [] k above = refl
  none_of_part (p ∷ ps) k above =
      let over = λ (x : Piece). k < x.part in
      let here = All-head over p ps above in
      other_part p ps k (grind (arith, nat_tests)) ∙ none_of_part ps k (All-tail over p ps above)

  skip : (p : Piece) (ps : List Piece) (k n : ℕ) → p.part < k → by_range (p ∷ ps) k n ≡ by_range ps k n
  skip p ps k zero less = refl
  skip p ps k (suc n) less =
      ap₂ (λ a b. flat_map item a ++ b) (other_part p ps k (grind (arith, nat_tests))) (skip p ps (suc k) n (omega arith))

  insert : (p : Piece) (ps : List Piece) → All (λ x. p.part ≤ x.part) ps → (k n : ℕ) → k ≤ p.part → p.part < k + n
      → by_range (p ∷ ps) k n ≡ item p ++ by_range ps k n
  insert p ps up k zero from below = absurd (omega arith)
  insert p ps up k (suc n) from below =
      elim (eq-or-lt_of_le from) [
        | inl same ↦
            ap₂ (λ a b. flat_map item a ++ b) (this_part p ps k (grind (arith, nat_tests))) (skip p ps (suc k) n (omega (arith, same)))
            ∙ append_assoc (item p) (flat_map item (of_part k ps)) (by_range ps (suc k) n)
        | inr less ↦
            let over = All-weaker (λ (x : Piece). p.part ≤ x.part) (λ x. k < x.part) (λ x le. omega (arith, le, less)) ps up in
            let none = none_of_part ps k over in
            ap₂ (λ a b. flat_map item a ++ b) (other_part p ps k (grind (arith, nat_tests)) ∙ none)
            (insert p ps up (suc k) n (omega (arith, less)) (omega (arith, below)))
            ∙ ap (λ a. item p ++ (flat_map item a ++ by_range ps (suc k) n)) (sym none)
      ]

  ranged : (p : Piece) (ps : List Piece) → AreChained p ps → (k n : ℕ) → k ≤ p.part → (last p ps).part < k + n
      → by_range (p ∷ ps) k n ≡ flat_map item (p ∷ ps)
  ranged p [] chain k n from below =
      insert p [] (parts_up p [] chain) k n from below ∙ ap (λ l. item p ++ l) (no_range k n)
  ranged p (q ∷ qs) chain k n from below =
      let up = part_up p q chain.0 in
      let over = last_up q qs chain.1 in
      insert p (q ∷ qs) (parts_up p (q ∷ qs) chain) k n from (omega (arith, up, over, below))
      ∙ ap (λ l. item p ++ l) (ranged q qs chain.1 k n (omega (arith, up, from)) below)

  -- by parts or in order
  pub in_order : (pieces : List Piece) → TileFront pieces → by_range pieces 1 (part_count pieces) ≡ flat_map item pieces
  in_order [] tile = no_range 1 0
  in_order (p ∷ ps) tile =
      let first = tile.0.part in
      let count : part_count (p ∷ ps) ≡ (last p ps).part = ap part_of (last_piece-cons p ps) in
      ranged p ps tile.1 1 (part_count (p ∷ ps)) (omega (arith, first)) (omega (arith, count))

  -- by the numbers of parts
  pub by_numbers : (ps : List Piece) (k n : ℕ) → flat_map (λ i. flat_map item (filter (λ p. p.part == i) ps)) (numbers k n) ≡ by_range ps k n
  by_numbers ps k zero = refl
  by_numbers ps k (suc n) = ap (λ l. flat_map item (filter (λ p. p.part == k) ps) ++ l) (by_numbers ps (suc k) n)

module _ (planned : List Planned) (all : List Piece) where
  abbrev item_of : Piece → List TablePiece
  item_of p = table_pieces planned all p

  by_parts_from : (k n : ℕ) → pieces_of (parts_from planned all k n) ≡ by_range item_of all k n
  by_parts_from k zero = refl
  by_parts_from k (suc n) = ap (λ l. flat_map item_of (filter (λ p. p.part == k) all) ++ l) (by_parts_from (suc k) n)

  -- the pieces of all parts are all pieces, in order
  pub parts_in_order : TileFront all → pieces_of (parts_of planned all) ≡ flat_map item_of all
  parts_in_order tile = by_parts_from 1 (part_count all) ∙ in_order item_of all tile

  -- what the parts have, by their numbers
  pub parts_by_numbers : {Y : Type 0} (f : List TablePiece → List Y) (k n : ℕ)
      → flat_map (λ i. f (part_pieces planned all i)) (numbers k n) ≡ flat_map f (parts_from planned all k n)
  parts_by_numbers f k zero = refl
  parts_by_numbers f k (suc n) = ap (λ l. f (part_pieces planned all k) ++ l) (parts_by_numbers f (suc k) n)
