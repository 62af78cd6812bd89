-- A text that is refused is no plan: its lines can be read in one way, and pieces that tile break no rule.
use Rattle.std.proofs.Common.{◌≡◌, ◌≢◌, ◌⊎◌, ℕ, ◌+◌, ◌<◌, ◌≤◌, ◌^◌, ◌==◌, Bool, true, false, not, ◌&&◌, ◌||◌, List, [], ◌∷◌, ◌++◌, length, flat_map}
use Rattle.std.proofs.Common.{refl, sym, ap, ap₂, subst, ◌∙◌, arith, inl, inr, Option, Some, None, lit<, append_assoc, length-append}
use Rattle.std.specs.Prelude.{nat_lt, if◌then◌else◌}
use Rattle.std.specs.List.{All}
use Rattle.std.proofs.lemmas.Bool.Decides.{nat_tests}
use Rattle.std.proofs.lemmas.List.Elements.{All-head, All-tail}
use Rattle.csvw_part_plan.specs.declared.piece.Piece.{Piece}
use Rattle.csvw_part_plan.specs.declared.fault.LineFault.{LineFault}
use Rattle.csvw_part_plan.specs.declared.fault.LineFault.TheVariants.{LastByte}
use Rattle.csvw_part_plan.specs.Order.{begin_fault, end_fault, fault_after, fault_by, first_fault, going_fault, next_fault, table_fault}
use Rattle.csvw_part_plan.specs.Plans.{AreChained, Begins, BeginsNext, EndFits, Fits, Follows, GoesOn, IsFirst, TileFront, heading, line}
use Rattle.csvw_part_plan.specs.Refusals.{IsWrongThere, NoPlan}
use Rattle.csvw_part_plan.proofs.Cells.{cell_unique, tail_of}
use Rattle.csvw_part_plan.proofs.Chains.{last, last_piece-cons}
use Rattle.csvw_part_plan.proofs.Lines.{line-cells, line_some}

-- two pieces with the same numbers are one
same_piece : (p q : Piece) → p.part ≡ q.part → p.table ≡ q.table → p.first_byte ≡ q.first_byte → p.bytes ≡ q.bytes → p.rows_before ≡ q.rows_before
    → p.data_rows_before ≡ q.data_rows_before → p.header_bytes ≡ q.header_bytes → p ≡ q
same_piece p q a b c d e f g =
    ap (λ n. record p { part = n }) a ∙ ap (λ n. record p { part = q.part; table = n }) b
    ∙ ap (λ n. record p { part = q.part; table = q.table; first_byte = n }) c
    ∙ ap (λ n. record q { bytes = n; rows_before = p.rows_before; data_rows_before = p.data_rows_before; header_bytes = p.header_bytes }) d
    ∙ ap (λ n. record q { rows_before = n; data_rows_before = p.data_rows_before; header_bytes = p.header_bytes }) e
    ∙ ap (λ n. record q { data_rows_before = n; header_bytes = p.header_bytes }) f ∙ ap (λ n. record q { header_bytes = n }) g

wider : (n : ℕ) → n < 2 ^ 32 → n < 2 ^ 64
wider n fits = omega arith

-- the line of one piece is that of no other
line_unique : (p q : Piece) (x y : List ℕ) → Fits p → Fits q → line p ++ x ≡ line q ++ y → (p ≡ q) × (x ≡ y)
line_unique p q x y f g is =
    let t = sym (line-cells p x) ∙ is ∙ line-cells q y in
    let a = cell_unique p.part q.part 44 _ _ (lit< tt) (wider _ f.part) (wider _ g.part) t in
    let b = cell_unique p.table q.table 44 _ _ (lit< tt) (wider _ f.table) (wider _ g.table) a.1 in
    let c = cell_unique p.first_byte q.first_byte 44 _ _ (lit< tt) f.first_byte g.first_byte b.1 in
    let d = cell_unique p.bytes q.bytes 44 _ _ (lit< tt) f.bytes g.bytes c.1 in
    let e = cell_unique p.rows_before q.rows_before 44 _ _ (lit< tt) f.rows g.rows d.1 in
    let h = cell_unique p.data_rows_before q.data_rows_before 44 _ _ (lit< tt) f.data_rows g.data_rows e.1 in
    let i = cell_unique p.header_bytes q.header_bytes 10 _ _ (lit< tt) f.header g.header h.1 in
    (same_piece p q a.0 b.0 c.0 d.0 e.0 h.0 i.0, i.1)

same_rest : (front x y : List ℕ) → front ++ x ≡ front ++ y → x ≡ y
same_rest [] x y is = is
same_rest (c ∷ cs) x y is = same_rest cs x y (tail_of c (cs ++ x) c (cs ++ y) is)

-- a text that begins with a line isn't empty
no_line : (p : Piece) (x : List ℕ) → line p ++ x ≡ [] → ⊥
no_line p x none =
    let some = line_some p in
    let all = length-append (line p) x in
    let no = ap length none in
    omega arith

-- the pieces that follow those whose lines are at the front
record After (before pieces : List Piece) (rest : List ℕ) : Type 0 where
  more : List Piece
  all : pieces ≡ before ++ more
  is_rest : rest ≡ flat_map line more
  fit : All Fits more

after : (before pieces : List Piece) (rest : List ℕ) → All Fits before → All Fits pieces → flat_map line before ++ rest ≡ flat_map line pieces
    → After before pieces rest
after [] pieces rest f g is = record { more = pieces; all = refl; is_rest = is; fit = g }
after (b ∷ bs) [] rest f g is = absurd (no_line b (flat_map line bs ++ rest) (sym (append_assoc (line b) (flat_map line bs) rest) ∙ is))
after (b ∷ bs) (q ∷ qs) rest f g is =
    let at : line b ++ (flat_map line bs ++ rest) ≡ line q ++ flat_map line qs = sym (append_assoc (line b) (flat_map line bs) rest) ∙ is in
    let one = line_unique b q (flat_map line bs ++ rest) (flat_map line qs) (All-head Fits b bs f) (All-head Fits q qs g) at in
    let others = after bs qs rest (All-tail Fits b bs f) (All-tail Fits q qs g) one.1 in
    record {
      more = others.more;
      all = ap₂ (λ x xs. x ∷ xs) (sym one.0) others.all;
      is_rest = others.is_rest;
      fit = others.fit;
    }

-- a chain of tests that fail
passes : (b : Bool) (fault : LineFault) (others : Option LineFault) → b ≡ false → others ≡ None → (if b then Some fault else others) ≡ None
passes true fault others fails none = cc
passes false fault others fails none = none

so : (n m : ℕ) → n ≡ m → not (n == m) ≡ false
so n m is = grind (arith, nat_tests)

positive : (n : ℕ) → 0 < n → (n == 0) ≡ false
positive n is = grind (arith, nat_tests)

not_less : (n m : ℕ) → m ≤ n → nat_lt n m ≡ false
not_less n m is = grind (arith, nat_tests)

both : (a b : Bool) → a ≡ false → b ≡ false → (a || b) ≡ false
both true b x y = cc
both false b x y = y

end_passes : (p : Piece) → EndFits p → end_fault p ≡ None
end_passes p fits = of (nat_lt (p.first_byte + p.bytes) (2 ^ 64)) (grind (arith, nat_tests))
  where
    of : (b : Bool) → b ≡ true → (if b then None else Some LastByte) ≡ None
    of true is = refl
    of false is = cc

begin_passes : (p : Piece) → Begins p → EndFits p → begin_fault p ≡ None
begin_passes p is fits =
    passes _ _ _ (so _ _ is.first_byte) (passes _ _ _ (both _ _ (so _ _ is.rows) (so _ _ is.data_rows)) (end_passes p fits))

first_passes : (p : Piece) → IsFirst p → first_fault p ≡ None
first_passes p is = passes _ _ _ (so _ _ is.part) (passes _ _ _ (so _ _ is.table) (begin_passes p is.begins is.end_fits))

going_passes : (p q : Piece) → GoesOn p q → EndFits q → going_fault p q ≡ None
going_passes p q is fits =
    passes _ _ _ (so _ _ is.part) (passes _ _ _ (both _ _ (positive _ is.later) (so _ _ is.first_byte))
    (passes _ _ _ (both _ _ (not_less _ _ is.rows) (not_less _ _ is.data_rows)) (passes _ _ _ (so _ _ is.header) (end_passes q fits))))

one_of : (n m k : ℕ) → (n ≡ m) ⊎ (n ≡ k) → (not (n == m) && not (n == k)) ≡ false
one_of n m k (inl is) = let no = so n m is in rw no refl
one_of n m k (inr is) = let no = so n k is in last_false (not (n == m)) (not (n == k)) no
  where
    last_false : (a b : Bool) → b ≡ false → (a && b) ≡ false
    last_false true b is = is
    last_false false b is = refl

table_passes : (p q : Piece) → BeginsNext p q → EndFits q → table_fault p q ≡ None
table_passes p q is fits = passes _ _ _ (so _ _ is.table) (passes _ _ _ (one_of _ _ _ is.part) (begin_passes q is.begins fits))

chosen : (b : Bool) (x y : Option LineFault) → (b ≡ true → x ≡ None) → (b ≡ false → y ≡ None) → (if b then x else y) ≡ None
chosen true x y f g = f refl
chosen false x y f g = g refl

next_passes : (p q : Piece) → Follows p q → next_fault p q ≡ None
next_passes p q (inl is, fits) =
    let same = is.table in
    chosen (q.table == p.table) _ _ (λ e. going_passes p q is fits) (λ e. let yes : (q.table == p.table) ≡ true = grind (arith, nat_tests) in cc)
next_passes p q (inr is, fits) =
    let next = is.table in
    chosen (q.table == p.table) _ _ (λ e. let no : (q.table == p.table) ≡ false = grind (arith, nat_tests) in cc) (λ e. table_passes p q is fits)

chain_next : (b : Piece) (bs : List Piece) (q : Piece) (more : List Piece) → AreChained b (bs ++ q ∷ more) → Follows (last b bs) q
chain_next b [] q more chain = chain.0
chain_next b (c ∷ cs) q more chain = chain_next c cs q more chain.1

-- pieces that tile break no rule
tile_next : (before : List Piece) (q : Piece) (more : List Piece) → TileFront (before ++ q ∷ more) → fault_after before q ≡ None
tile_next [] q more tile = first_passes q tile.0
tile_next (b ∷ bs) q more tile = ap (λ o. fault_by o q) (last_piece-cons b bs) ∙ next_passes (last b bs) q (chain_next b bs q more tile.1)

-- what follows the lines that are right is wrong, and yet the line of a piece
wrong_there : (before pieces more : List Piece) (rest : List ℕ) (fault : LineFault) → pieces ≡ before ++ more → rest ≡ flat_map line more → All Fits more
    → pieces ≢ [] → TileFront pieces → IsWrongThere before rest fault → ⊥
wrong_there before pieces [] rest fault all is fits some tile (inl none) = some (all ∙ ap (λ b. b ++ []) none.1)
wrong_there before pieces [] rest fault all is fits some tile (inr (inl numbers)) = numbers.1.some is
wrong_there before pieces [] rest fault all is fits some tile (inr (inr wrong)) = no_line wrong.piece wrong.rest (sym wrong.is_next ∙ is)
wrong_there before pieces (q ∷ qs) rest fault all is fits some tile (inl none) = no_line q (flat_map line qs) (sym is ∙ none.2)
wrong_there before pieces (q ∷ qs) rest fault all is fits some tile (inr (inl numbers)) =
    numbers.1.none q (flat_map line qs) (All-head Fits q qs fits) is
wrong_there before pieces (q ∷ qs) rest fault all is fits some tile (inr (inr wrong)) =
    let same = line_unique wrong.piece q wrong.rest (flat_map line qs) wrong.fits (All-head Fits q qs fits) (sym wrong.is_next ∙ is) in
    let passed = tile_next before q qs (subst TileFront all tile) in
    let breaks = sym (ap (fault_after before) same.0) ∙ wrong.breaks in
    cc

pub no_plan : NoPlan
no_plan text at fault pieces (inl none) fits plan = none.2 (flat_map line pieces) plan.is_text
no_plan text at fault pieces (inr (before, rest, reach, wrong)) fits plan =
    let same = same_rest heading (flat_map line before ++ rest) (flat_map line pieces)
    (sym (append_assoc heading (flat_map line before) rest) ∙ sym reach.is_text ∙ plan.is_text) in
    let others = after before pieces rest reach.fit fits same in
    wrong_there before pieces others.more rest fault others.all others.is_rest others.fit plan.tiles.0 plan.tiles.1 wrong
