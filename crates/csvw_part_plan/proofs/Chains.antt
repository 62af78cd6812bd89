-- Pieces that tile, and one more that breaks no rule.
use Rattle.std.proofs.Common.{◌≡◌, ◌⊎◌, ℕ, suc, ◌+◌, ◌-◌, ◌<◌, ◌≤◌, ◌^◌, ◌==◌, Bool, true, false, not, ◌&&◌, ◌||◌, List, [], ◌∷◌, ◌++◌, length, refl, sym, ap, ◌∙◌, arith, inl, inr}
use Rattle.std.proofs.Common.{Option, Some, None}
use Rattle.std.specs.Prelude.{slice_get, nat_lt, if◌then◌else◌}
use Rattle.std.proofs.lemmas.Bool.Decides.{nat_tests}
use Rattle.csvw_part_plan.specs.declared.piece.Piece.{Piece}
use Rattle.csvw_part_plan.specs.declared.fault.LineFault.{LineFault}
use Rattle.csvw_part_plan.specs.declared.fault.LineFault.TheVariants.{LastByte}
use Rattle.csvw_part_plan.specs.Order.{begin_fault, end_fault, fault_after, fault_by, first_fault, going_fault, next_fault, table_fault}
use Rattle.csvw_part_plan.specs.Plans.{AreChained, Begins, EndFits, Follows, IsFirst, TileFront, last_piece}

-- a chain of tests that found no fault: the first test failed, and so did the others
passed : (b : Bool) (fault : LineFault) (others : Option LineFault) → (if b then Some fault else others) ≡ None → (b ≡ false) × (others ≡ None)
passed true fault others none = cc
passed false fault others none = (refl, none)

is_so : (n m : ℕ) → not (n == m) ≡ false → n ≡ m
is_so n m fails = grind (arith, nat_tests)

is_positive : (n : ℕ) → (n == 0) ≡ false → 0 < n
is_positive n fails = grind (arith, nat_tests)

neither : (a b : Bool) → (a || b) ≡ false → (a ≡ false) × (b ≡ false)
neither true b none = cc
neither false b none = (refl, none)

not_less : (n m : ℕ) → nat_lt n m ≡ false → m ≤ n
not_less n m fails = grind (arith, nat_tests)

fits_end : (p : Piece) → end_fault p ≡ None → EndFits p
fits_end p none = of (nat_lt (p.first_byte + p.bytes) (2 ^ 64)) refl none
  where
    of : (b : Bool) → nat_lt (p.first_byte + p.bytes) (2 ^ 64) ≡ b → (if b then None else Some LastByte) ≡ None → EndFits p
    of true is found = grind (arith, nat_tests)
    of false is found = cc

begins : (p : Piece) → begin_fault p ≡ None → Begins p × EndFits p
begins p none =
    let first = passed _ _ _ none in
    let rows = passed _ _ _ first.1 in
    let both = neither _ _ rows.0 in
    (record { first_byte = is_so _ _ first.0; rows = is_so _ _ both.0; data_rows = is_so _ _ both.1 }, fits_end p rows.1)

is_first : (p : Piece) → first_fault p ≡ None → IsFirst p
is_first p none =
    let part = passed _ _ _ none in
    let table = passed _ _ _ part.1 in
    let more = begins p table.1 in
    record { part = is_so _ _ part.0; table = is_so _ _ table.0; begins = more.0; end_fits = more.1 }

goes_on : (before p : Piece) → p.table ≡ before.table → going_fault before p ≡ None → Follows before p
goes_on before p table none =
    let part = passed _ _ _ none in
    let place = passed _ _ _ part.1 in
    let at = neither _ _ place.0 in
    let rows = passed _ _ _ place.1 in
    let both = neither _ _ rows.0 in
    let header = passed _ _ _ rows.1 in (
      inl record {
        part = is_so _ _ part.0;
        table = table;
        first_byte = is_so _ _ at.1;
        later = is_positive _ at.0;
        rows = not_less _ _ both.0;
        data_rows = not_less _ _ both.1;
        header = is_so _ _ header.0;
      },
      fits_end p header.1,
    )

one_of : (n m k : ℕ) → (not (n == m) && not (n == k)) ≡ false → (n ≡ m) ⊎ (n ≡ k)
one_of n m k fails = of (n == m) refl fails
  where
    of : (b : Bool) → (n == m) ≡ b → (not b && not (n == k)) ≡ false → (n ≡ m) ⊎ (n ≡ k)
    of true is f = inl (grind (arith, nat_tests))
    of false is f = inr (is_so n k f)

begins_next : (before p : Piece) → table_fault before p ≡ None → Follows before p
begins_next before p none =
    let table = passed _ _ _ none in
    let part = passed _ _ _ table.1 in
    let more = begins p part.1 in
    (inr record { part = one_of _ _ _ part.0; table = is_so _ _ table.0; begins = more.0 }, more.1)

follows : (before p : Piece) → next_fault before p ≡ None → Follows before p
follows before p none = of (p.table == before.table) refl none
  where
    of : (b : Bool) → (p.table == before.table) ≡ b → (if b then going_fault before p else table_fault before p) ≡ None → Follows before p
    of true is n = goes_on before p (grind (arith, nat_tests)) n
    of false is n = begins_next before p n

-- the last of some pieces
abbrev pub last : Piece → List Piece → Piece
last p [] = p
last p (q ∷ qs) = last q qs

pub last_piece-cons : (p : Piece) (ps : List Piece) → last_piece (p ∷ ps) ≡ Some (last p ps)
last_piece-cons p [] = refl
last_piece-cons p (q ∷ qs) =
    let at : length (p ∷ q ∷ qs) - 1 ≡ suc (length (q ∷ qs) - 1) = omega arith in
    ap (slice_get (p ∷ q ∷ qs)) at ∙ last_piece-cons q qs

chained_more : (q : Piece) (qs : List Piece) (p : Piece) → AreChained q qs → Follows (last q qs) p → AreChained q (qs ++ p ∷ [])
chained_more q [] p chain next = (next, tt)
chained_more q (r ∷ rs) p chain next = (chain.0, chained_more r rs p chain.1 next)

pub tile_more : (before : List Piece) (p : Piece) → TileFront before → fault_after before p ≡ None → TileFront (before ++ p ∷ [])
tile_more [] p tile none = (is_first p none, tt)
tile_more (q ∷ qs) p tile none =
    let found = ap (λ o. fault_by o p) (sym (last_piece-cons q qs)) ∙ none in
    (tile.0, chained_more q qs p tile.1 (follows (last q qs) p found))
