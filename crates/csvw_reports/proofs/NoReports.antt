-- A text that is refused is no report: its lines can be read in one way.
use Rattle.std.proofs.Common.{◌≡◌, ◌≢◌, ℕ, ◌<◌, ◌^◌, List, [], ◌∷◌, ◌++◌, length, flat_map, sym, ap, ◌∙◌, arith, inl, inr, lit<, append_assoc, length-append}
use Rattle.std.specs.List.{All}
use Rattle.std.proofs.lemmas.List.Elements.{All-head, All-tail}
use Rattle.csvw_fault.specs.declared.fault.Fault.{Fault}
use Rattle.csvw_part_plan.proofs.Cells.{cell_unique, tail_of}
use Rattle.csvw_report.specs.Report.{heading, line}
use Rattle.csvw_reports.specs.Reading.{Fits}
use Rattle.csvw_reports.specs.ReportLaws.{NoReport}
use Rattle.csvw_reports.proofs.Lines.{after_code, after_kind, line-cells, line_some}

wider : (n : ℕ) → n < 2 ^ 32 → n < 2 ^ 64
wider n fits = omega arith

-- what follows the line of a fault is the same, whichever fault it is the line of
same_after : (f g : Fault) (x y : List ℕ) → Fits f → Fits g → line f ++ x ≡ line g ++ y → x ≡ y
same_after f g x y p q is =
    let t = sym (line-cells f x) ∙ is ∙ line-cells g y in
    let a = (after_kind f.kind g.kind _ _ t).1 in
    let b = (after_code f.code g.code _ _ a).1 in
    let d = (cell_unique f.place.table g.place.table 44 _ _ (lit< tt) (wider _ p.table) (wider _ q.table) b).1 in
    let e = (cell_unique f.place.row g.place.row 44 _ _ (lit< tt) p.row q.row d).1 in
    (cell_unique f.place.column g.place.column 10 _ _ (lit< tt) (wider _ p.column) (wider _ q.column) e).1

same_rest : (front x y : List ℕ) → front ++ x ≡ front ++ y → x ≡ y
same_rest [] x y is = is
same_rest (c ∷ cs) x y is = same_rest cs x y (tail_of c (cs ++ x) c (cs ++ y) is)

-- a text that begins with a line isn't empty
no_line : (f : Fault) (x : List ℕ) → line f ++ x ≡ [] → ⊥
no_line f x none =
    let some = line_some f in
    let all = length-append (line f) x in
    let no = ap length none in
    omega arith

-- what follows the lines of some faults is no line of a fault, so it is no list of lines
wrong_after : (before faults : List Fault) (rest : List ℕ) → All Fits before → All Fits faults → flat_map line before ++ rest ≡ flat_map line faults
    → rest ≢ [] → ((f : Fault) (more : List ℕ) → Fits f → rest ≡ line f ++ more → ⊥) → ⊥
wrong_after [] [] rest p q is some none = some is
wrong_after [] (g ∷ gs) rest p q is some none = none g (flat_map line gs) (All-head Fits g gs q) is
wrong_after (b ∷ bs) [] rest p q is some none = no_line b (flat_map line bs ++ rest) (sym (append_assoc (line b) (flat_map line bs) rest) ∙ is)
wrong_after (b ∷ bs) (g ∷ gs) rest p q is some none =
    let at : line b ++ (flat_map line bs ++ rest) ≡ line g ++ flat_map line gs = sym (append_assoc (line b) (flat_map line bs) rest) ∙ is in
    let next = same_after b g (flat_map line bs ++ rest) (flat_map line gs) (All-head Fits b bs p) (All-head Fits g gs q) at in
    wrong_after bs gs rest (All-tail Fits b bs p) (All-tail Fits g gs q) next some none

pub no_report : NoReport
no_report text at faults (inl none) fits is = none.1 (flat_map line faults) is
no_report text at faults (inr (before, rest, wrong)) fits is =
    let same = same_rest heading (flat_map line before ++ rest) (flat_map line faults)
    (sym (append_assoc heading (flat_map line before) rest) ∙ sym wrong.is_text ∙ is) in
    wrong_after before faults rest wrong.fit fits same wrong.is_wrong.some wrong.is_wrong.none
