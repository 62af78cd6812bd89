-- The line of a fault is the names of its kind and its code and the numbers of its place, with the bytes that end them.
use Rattle.std.proofs.Common.{◌≡◌, ℕ, ◌<◌, ◌^◌, List, [], ◌∷◌, ◌++◌, length, flat_map, sym, ap, ◌∙◌, append_assoc, append-nil, length-append, arith}
use Rattle.std.specs.Prelude.{◌+◌}
use Rattle.std.proofs.lemmas.List.Concat.{flat_map-append}
use Rattle.csvw_fault.specs.Code.{name_of}
use Rattle.csvw_fault.specs.declared.fault.Code.{Code}
use Rattle.csvw_fault.specs.declared.fault.Fault.{Fault}
use Rattle.csvw_fault.specs.declared.fault.Kind.{Kind}
use Rattle.csvw_part_plan.specs.Plans.{cell}
use Rattle.csvw_part_plan.proofs.Cells.{cell_unique, first_unique}
use Rattle.csvw_report.specs.Report.{heading, kind_name, line}
use Rattle.csvw_reports.specs.Reading.{place_cells}
use Rattle.csvw_reports.proofs.Names.{code_without_comma, kind_without_comma}

pub line-cells : (f : Fault) (rest : List ℕ) → line f ++ rest ≡ kind_name f.kind ++ 44 ∷ (name_of f.code ++ 44 ∷ place_cells f.place rest)
unfolding line
line-cells f rest = simp append_assoc

-- the names and the place, read one after the other, are those of the line
pub line_read : (f : Fault) (t0 t1 t2 t3 : List ℕ) → t0 ≡ kind_name f.kind ++ 44 ∷ t1 → t1 ≡ name_of f.code ++ 44 ∷ t2 → t2 ≡ place_cells f.place t3
    → t0 ≡ line f ++ t3
line_read f t0 t1 t2 t3 a b c =
    a ∙ ap (λ t. kind_name f.kind ++ 44 ∷ t) (b ∙ ap (λ t. name_of f.code ++ 44 ∷ t) c) ∙ sym (line-cells f t3)

-- what follows the name of a kind is known, and so is what follows that of a code
pub after_kind : (j k : Kind) (x y : List ℕ) → kind_name j ++ 44 ∷ x ≡ kind_name k ++ 44 ∷ y → (kind_name j ≡ kind_name k) × (x ≡ y)
after_kind j k x y is = first_unique 44 (kind_name j) (kind_name k) x y (kind_without_comma j) (kind_without_comma k) is

pub after_code : (c d : Code) (x y : List ℕ) → name_of c ++ 44 ∷ x ≡ name_of d ++ 44 ∷ y → (name_of c ≡ name_of d) × (x ≡ y)
after_code c d x y is = first_unique 44 (name_of c) (name_of d) x y (code_without_comma c) (code_without_comma d) is

-- what follows the number of a text is known, and the number is
pub peel : (e n m : ℕ) (text x y : List ℕ) → e < 48 → n < 2 ^ 64 → m < 2 ^ 64 → text ≡ cell n e x → text ≡ cell m e y → x ≡ y
peel e n m text x y small p q one two = (cell_unique n m e x y small p q (sym one ∙ two)).1

pub peel_number : (e n m : ℕ) (text x y : List ℕ) → e < 48 → n < 2 ^ 64 → m < 2 ^ 64 → text ≡ cell n e x → text ≡ cell m e y → n ≡ m
peel_number e n m text x y small p q one two = (cell_unique n m e x y small p q (sym one ∙ two)).0

pub line_some : (f : Fault) → 0 < length (line f)
unfolding line
line_some f = rw length-append (omega arith)

-- what follows a line is shorter than the text
pub shorter : (f : Fault) (after rest : List ℕ) → rest ≡ line f ++ after → length after < length rest
shorter f after rest is =
    let some = line_some f in
    let all : length rest ≡ length (line f) + length after = ap length is ∙ length-append (line f) after in
    omega arith

lines_more : (before : List Fault) (f : Fault) → flat_map line (before ++ f ∷ []) ≡ flat_map line before ++ line f
lines_more before f = flat_map-append line before (f ∷ []) ∙ ap (λ t. flat_map line before ++ t) (append-nil (line f))

-- one line more of a text was read
pub text_more : (text : List ℕ) (before : List Fault) (f : Fault) (rest after : List ℕ) → text ≡ heading ++ flat_map line before ++ rest
    → rest ≡ line f ++ after → text ≡ heading ++ flat_map line (before ++ f ∷ []) ++ after
text_more text before f rest after is next =
    is ∙ ap (λ t. heading ++ flat_map line before ++ t) next ∙ sym (append_assoc (heading ++ flat_map line before) (line f) after)
    ∙ ap (λ t. t ++ after) (append_assoc heading (flat_map line before) (line f))
    ∙ ap (λ t. (heading ++ t) ++ after) (sym (lines_more before f))
