-- Each warning of a plan is in exactly one part: the one in which its table begins, or part 1.
use Rattle.std.proofs.Common.{◌≡◌, ◌≢◌, ◌∙◌, ℕ, ◌<◌, ◌≤◌, ◌||◌, Bool, true, false, List, [], ◌∷◌, None, refl, sym, ap, arith, get_or}
use Rattle.std.specs.Prelude.{filter, flat_map, if◌then◌else◌, nat_eq, nat_lt}
use Rattle.std.specs.List.{All, list_any}
use Rattle.std.specs.List.Sorted.{IsPermutation}
use Rattle.std.proofs.lemmas.Bool.Decides.{nat_tests}
use Rattle.csvw_fault.specs.declared.fault.Fault.{Fault}
use Rattle.csvw_part_plan.specs.Plans.{TileFront, last_of, part_count, part_of}
use Rattle.csvw_part_plan.specs.declared.piece.Piece.{Piece}
use Rattle.csvw_parts.specs.PartRuns.{begins_with}
use Rattle.csvw_join_laws.specs.AllParts.{numbers}
use Rattle.csvw_join_laws.proofs.Begins.{begins_once}
use Rattle.csvw_join_laws.proofs.Ranges.{last, last_piece-cons, last_up}
use Rattle.csvw_join_laws.proofs.Sums.{HasPlace, shared}

-- the table of a number begins in the part of a number; what is none of so many tables begins in part 1
abbrev pub begins_at : ℕ → List Piece → ℕ → ℕ → Bool
begins_at many pieces number table = if nat_eq table 0 || nat_lt many table then nat_eq number 1 else list_any (begins_with number table) pieces

-- the warnings that a part has
abbrev pub warnings_in : ℕ → List Piece → List Fault → ℕ → List Fault
warnings_in many pieces warnings number = filter (λ w. begins_at many pieces number w.place.table) warnings

-- a plan with a piece has a part
pub some_part : (pieces : List Piece) → TileFront pieces → pieces ≢ [] → 0 < part_count pieces
some_part [] tile some = absurd (some refl)
some_part (p ∷ ps) tile some =
    let first = tile.0.part in
    let up = last_up p ps tile.1 in
    let count : part_count (p ∷ ps) ≡ (last p ps).part = ap part_of (last_piece-cons p ps) in
    omega arith

swapped : (n m : ℕ) → nat_eq n m ≡ nat_eq m n
swapped n m = of (nat_eq n m) refl
  where
    of : (b : Bool) → nat_eq n m ≡ b → nat_eq n m ≡ nat_eq m n
    of true is = let other : nat_eq m n ≡ true = grind (arith, nat_tests) in is ∙ sym other
    of false is = let other : nat_eq m n ≡ false = grind (arith, nat_tests) in is ∙ sym other

neither : (a b : Bool) → (a || b) ≡ false → (a ≡ false) × (b ≡ false)
neither true b none = cc
neither false b none = (refl, none)

module _ (many : ℕ) (pieces : List Piece) (tile : TileFront pieces) (some : pieces ≢ []) (few : All (λ x. x.table ≤ many) pieces)
    (top : 0 < many → last_of many pieces ≢ None) where
  place_of : (w : Fault) (b : Bool) → (nat_eq w.place.table 0 || nat_lt many w.place.table) ≡ b
      → HasPlace (λ i (v : Fault). begins_at many pieces i v.place.table) 1 (part_count pieces) w
  place_of w true is =
      let count = some_part pieces tile some in
      record {
        at = 1;
        from = omega arith;
        below = omega (arith, count);
        is = λ i. ap (λ b. if b then nat_eq i 1 else list_any (begins_with i w.place.table) pieces) is ∙ swapped i 1;
      }
  place_of w false is =
      let table = w.place.table in
      let both = neither (nat_eq table 0) (nat_lt many table) is in
      let not_none = both.0 in
      let not_over = both.1 in
      let once = begins_once pieces tile many few top table (grind (arith, nat_tests)) (grind (arith, nat_tests)) in
      let below = once.below in
      record {
        at = once.at;
        from = once.from;
        below = omega (arith, below);
        is = λ i. ap (λ b. if b then nat_eq i 1 else list_any (begins_with i table) pieces) is ∙ once.is i;
      }

  -- the warnings of all parts are all warnings
  pub warnings_joined : (warnings : List Fault)
      → IsPermutation (flat_map (warnings_in many pieces warnings) (numbers 1 (part_count pieces))) warnings
  warnings_joined warnings =
      shared (λ i (w : Fault). begins_at many pieces i w.place.table) 1 (part_count pieces) warnings
      (λ k d below. place_of (get_or warnings k d) _ refl)
