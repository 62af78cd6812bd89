use Rattle.std.proofs.Common.{◌≡◌, ◌∙◌, ◌<◌, ℕ, List, chars, false, sym, ap, subst, arith}
use Rattle.csvw_records.specs.RecordLaws.{laws_of}
use Rattle.std.specs.Prelude.{Option, Some, None, IfSome}
use Rattle.csvw_records.specs.declared.dialect.Dialect.{Dialect}
use Rattle.csvw_fields.specs.Cuts.{IsCutRow, IsRowLen}
use Rattle.csvw_records.specs.Files.{is_ignored}
use Rattle.csvw_fields.specs.Marked.{is_symbol, AreMarks}
use Rattle.csvw_rows.specs.SourceState.{text_items, taken_of}
use Rattle.csvw_rows.proofs.CutTakes.{cut_has}
use Rattle.csvw_rows.proofs.rows.Rows.cut.Goals as goal

some_gives : {X : Type 0} (P Q : X → Type 0) (r : Option X) → ((x : X) → P x → Q x) → IfSome r P → IfSome r Q
some_gives P Q None f h = tt
some_gives P Q (Some x) f h = f x h

pub cut_row-requires-clause-marks : goal.cut_row-requires-clause-marks
cut_row-requires-clause-marks c =
    let s = c.args.self.now in
    let k = c.in-Some.ensures in
    let cutter = c.in-Some.cutter in
    subst (λ (l : List ℕ). AreMarks (is_symbol cutter.symbols) l s.marks) (sym (k.text ∙ c.items.ensures)) (s.marked cutter.symbols k.symbols)

pub returns-clause-row : goal.returns-clause-row
returns-clause-row c =
    let s = c.args.self.now in
    let d = s.rules.dialect in
    let k = c.in-Some.ensures in
    let cutter = c.in-Some.cutter in
    let at = c.in-Some-2.at in
    let spare = c.cut_row.new.spare.items in
    let bounds = c.cut_row.new.bounds.items in
    let text : List ℕ = text_items s.source in
    let same : cutter.text.now ≡ text = k.text ∙ c.items.ensures in
    let y = s.rules.same_symbols cutter.symbols k.symbols in
    let few : s.row < s.max_rows = (let h = c.if-self.false in omega (arith, h)) in
    let not_ignored : is_ignored d s.row (chars c.rest-rest.result.now) ≡ false = sym c.is_ignored.ensures ∙ c.if-is_ignored.false in
    let row = rw c.in-Some-2.is at c.in_ok-at.ensures.row in
    let here = subst (λ (l : List ℕ). IsCutRow d l (taken_of s.source) at spare bounds) same
    (subst (λ (n : ℕ). IsCutRow d cutter.text.now n at spare bounds) c.taken-start.ensures
    (subst (λ (x : Dialect). IsCutRow x cutter.text.now c.taken-start.result at spare bounds) k.dialect row)) in
    some_gives (IsRowLen cutter.dialect.now cutter.text.now c.taken-start.result at) _ c.row_len.result
    (λ n l. cut_has (laws_of c.record_laws.ensures) _ at n y.trim few (ap (is_ignored d s.row) (sym c.rest-rest.ensures.chars) ∙ not_ignored) here
    (subst (λ (x : List ℕ). IsRowLen d x (taken_of s.source) at n) same
    (subst (λ (m : ℕ). IsRowLen d cutter.text.now m at n) c.taken-start.ensures
    (subst (λ (x : Dialect). IsRowLen x cutter.text.now c.taken-start.result at n) k.dialect l))))
    c.row_len.ensures.len
