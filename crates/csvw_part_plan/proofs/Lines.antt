-- The line of a piece is its numbers with the bytes that end them.
use Rattle.std.proofs.Common.{◌≡◌, ℕ, ◌<◌, ◌^◌, List, [], ◌∷◌, ◌++◌, length, flat_map, sym, ap, ◌∙◌, append_assoc, append-nil, length-append, arith}
use Rattle.std.specs.Prelude.{◌+◌, decimal}
use Rattle.std.proofs.lemmas.List.Concat.{flat_map-append}
use Rattle.csvw_part_plan.specs.declared.piece.Piece.{Piece}
use Rattle.csvw_part_plan.specs.Plans.{cell, heading, line}
use Rattle.csvw_part_plan.proofs.Cells.{cell_unique}

pub line-cells : (p : Piece) (rest : List ℕ) → line p ++ rest
    ≡ cell p.part 44 (cell p.table 44 (cell p.first_byte 44 (cell p.bytes 44 (cell p.rows_before 44 (cell p.data_rows_before 44 (cell p.header_bytes 10 rest))))))
unfolding line
line-cells p rest = simp append_assoc

-- what follows the number of a text is known, and the number is
pub peel : (e n m : ℕ) (text x y : List ℕ) → e < 48 → n < 2 ^ 64 → m < 2 ^ 64 → text ≡ cell n e x → text ≡ cell m e y → x ≡ y
peel e n m text x y small p q one two = (cell_unique n m e x y small p q (sym one ∙ two)).1

pub peel_number : (e n m : ℕ) (text x y : List ℕ) → e < 48 → n < 2 ^ 64 → m < 2 ^ 64 → text ≡ cell n e x → text ≡ cell m e y → n ≡ m
peel_number e n m text x y small p q one two = (cell_unique n m e x y small p q (sym one ∙ two)).0

-- the numbers, read one after the other, are those of the line
pub line_read : (p : Piece) (t0 t1 t2 t3 t4 t5 t6 t7 : List ℕ) → t0 ≡ cell p.part 44 t1 → t1 ≡ cell p.table 44 t2 → t2 ≡ cell p.first_byte 44 t3
    → t3 ≡ cell p.bytes 44 t4 → t4 ≡ cell p.rows_before 44 t5 → t5 ≡ cell p.data_rows_before 44 t6 → t6 ≡ cell p.header_bytes 10 t7
    → t0 ≡ line p ++ t7
line_read p t0 t1 t2 t3 t4 t5 t6 t7 a b c d e f g =
    a ∙ ap (cell p.part 44) (b ∙ ap (cell p.table 44) (c ∙ ap (cell p.first_byte 44) (d ∙ ap (cell p.bytes 44) (e ∙ ap (cell p.rows_before 44)
    (f ∙ ap (cell p.data_rows_before 44) g))))) ∙ sym (line-cells p t7)

pub line_some : (p : Piece) → 0 < length (line p)
unfolding line
line_some p = rw length-append (omega arith)

-- what follows a line is shorter than the text
pub shorter : (p : Piece) (after rest : List ℕ) → rest ≡ line p ++ after → length after < length rest
shorter p after rest is =
    let some = line_some p in
    let all : length rest ≡ length (line p) + length after = ap length is ∙ length-append (line p) after in
    omega arith

lines_more : (before : List Piece) (p : Piece) → flat_map line (before ++ p ∷ []) ≡ flat_map line before ++ line p
lines_more before p = flat_map-append line before (p ∷ []) ∙ ap (λ t. flat_map line before ++ t) (append-nil (line p))

-- one line more of a text was read
pub text_more : (text : List ℕ) (before : List Piece) (p : Piece) (rest after : List ℕ) → text ≡ heading ++ flat_map line before ++ rest
    → rest ≡ line p ++ after → text ≡ heading ++ flat_map line (before ++ p ∷ []) ++ after
text_more text before p rest after is next =
    is ∙ ap (λ t. heading ++ flat_map line before ++ t) next ∙ sym (append_assoc (heading ++ flat_map line before) (line p) after)
    ∙ ap (λ t. t ++ after) (append_assoc heading (flat_map line before) (line p))
    ∙ ap (λ t. (heading ++ t) ++ after) (sym (lines_more before p))

-- the texts of the numbers, with the bytes between them, are the line
pub texts-line : (p : Piece) (a b c d e f g : List ℕ) → a ≡ decimal p.part → b ≡ decimal p.table → c ≡ decimal p.first_byte → d ≡ decimal p.bytes
    → e ≡ decimal p.rows_before → f ≡ decimal p.data_rows_before → g ≡ decimal p.header_bytes
    → a ++ 44 ∷ (b ++ 44 ∷ (c ++ 44 ∷ (d ++ 44 ∷ (e ++ 44 ∷ (f ++ 44 ∷ (g ++ 10 ∷ [])))))) ≡ line p
texts-line p a b c d e f g i j k l m n o = rw (i, j, k, l, m, n, o) (sym (line-cells p []) ∙ append-nil (line p))
