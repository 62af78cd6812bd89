-- The last piece of a table, and the first piece that passes a test, among some pieces and one more.
use Rattle.std.proofs.Common.{◌≡◌, ℕ, ◌+◌, ◌<◌, ◌==◌, Bool, true, false, cond, List, [], ◌∷◌, ◌++◌, length, take, drop, get_or, take-append-drop, Option, Some, None, refl, sym, ap, ◌∙◌}
use Rattle.std.specs.List.{find}
use Rattle.std.specs.Option.{option_or}
use Rattle.std.proofs.lemmas.List.{at_drop_more, take_more}
use Rattle.std.proofs.lemmas.List.Folds.{find-append}
use Rattle.csvw_part_plan.specs.declared.piece.Piece.{Piece}
use Rattle.csvw_part_plan.specs.Plans.{last_of, or_later}

later_choice : (table : ℕ) (q : Piece) (b : Bool) (p : Piece) (found : Option Piece)
    → or_later table q (cond b (Some p) found) ≡ cond b (Some p) (or_later table q found)
later_choice table q true p found = refl
later_choice table q false p found = refl

last_of-append : (table : ℕ) (xs : List Piece) (p : Piece) → last_of table (xs ++ p ∷ []) ≡ cond (p.table == table) (Some p) (last_of table xs)
last_of-append table [] p = refl
last_of-append table (q ∷ xs) p = ap (or_later table q) (last_of-append table xs p) ∙ later_choice table q (p.table == table) p (last_of table xs)

pub last_of_more : (table : ℕ) (xs : List Piece) (i : ℕ) (d : Piece) → i < length xs
    → last_of table (take (i + 1) xs) ≡ cond ((get_or xs i d).table == table) (Some (get_or xs i d)) (last_of table (take i xs))
last_of_more table xs i d below = ap (last_of table) (take_more xs i d below) ∙ last_of-append table (take i xs) (get_or xs i d)

-- the piece that a loop has in its default's place
abbrev pub no_piece : Piece
no_piece = record { part = 0; table = 0; first_byte = 0; bytes = 0; rows_before = 0; data_rows_before = 0; header_bytes = 0 }

module _ (test : Piece → Bool) (xs : List Piece) (i : ℕ) (d : Piece) (below : i < length xs) (none : find test (take i xs) ≡ None) where
  pub find_here : test (get_or xs i d) ≡ true → find test xs ≡ Some (get_or xs i d)
  find_here passes =
      ap (find test) (sym (take-append-drop i xs)) ∙ find-append test (take i xs) (drop i xs) ∙ ap (λ o. option_or o (find test (drop i xs))) none
      ∙ at_drop_more (find test) xs i d below ∙ ap (λ b. cond b (Some (get_or xs i d)) (find test (drop (i + 1) xs))) passes

  pub find_on : test (get_or xs i d) ≡ false → find test (take (i + 1) xs) ≡ None
  find_on fails =
      ap (find test) (take_more xs i d below) ∙ find-append test (take i xs) (get_or xs i d ∷ []) ∙ ap (λ o. option_or o (find test (get_or xs i d ∷ []))) none
      ∙ ap (λ b. cond b (Some (get_or xs i d)) None) fails
