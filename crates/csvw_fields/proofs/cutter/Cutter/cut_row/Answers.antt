use Rattle.std.proofs.Common.{◌≡◌, [], ℕ, List, refl, sym, ap, ◌∙◌, subst, arith, append-nil}
use Rattle.std.proofs.lemmas.List.{get_or-drop}
use Rattle.csvw_fields.specs.declared.bound.Bound.{Bound}
use Rattle.csvw_fields.specs.Bounds.{are_bounds}
use Rattle.csvw_fields.specs.Cuts.{IsCutTo}
use Rattle.csvw_fields.proofs.RowCuts.{cut_none, cut_grows, one_more, before_delimiter, cut_before, moved_before}
use Rattle.csvw_fields.proofs.cutter.Cutter.cut_row.Goals as goal

pub loop-len-init : goal.loop-len-init
loop-len-init c =
    let d = c.args.self.dialect.now in
    let text : List ℕ = c.args.self.text.now in
    let spare : List ℕ = c.clear-2.new.self.items in
    let none : c.clear.new.self.items ≡ [] = c.clear.ensures.items in
    record {
      from_start = omega arith;
      within = c.requires.within;
      is_text = c.requires.text;
      bounded = ap (are_bounds text spare) none;
      marks = c.requires.marks;
      cut_to = subst (λ (l : List Bound). IsCutTo d text c.args.start c.args.start spare l) (sym none) (cut_none d text spare c.args.start);
    }

pub returns-in_err-cut-clause-bounded : goal.returns-in_err-cut-clause-bounded
returns-in_err-cut-clause-bounded c =
    let i = c.loop-len.invariant in
    (cut_grows _ _ _ _ _ _ _ c.in_err-cut.ensures.grows i.bounded i.cut_to).0

pub returns-in_default-2-clause-bounded : goal.returns-in_default-2-clause-bounded
returns-in_default-2-clause-bounded c =
    let i = c.loop-len.invariant in
    (cut_grows _ _ _ _ _ _ _ c.in_ok-cut.ensures.grows i.bounded i.cut_to).0

pub returns-in_err-push-2-clause-bounded : goal.returns-in_err-push-2-clause-bounded
returns-in_err-push-2-clause-bounded c =
    let i = c.loop-len.invariant in
    ap (are_bounds c.args.self.text.now c.cut_field.new.spare.items) c.in_err-push-2.ensures.items
    ∙ (cut_grows _ _ _ _ _ _ _ c.in_ok-cut.ensures.grows i.bounded i.cut_to).0

pub returns-then-cut-clause-bounded : goal.returns-then-cut-clause-bounded
returns-then-cut-clause-bounded c =
    let i = c.loop-len.invariant in
    let k = rw c.in-Some-2.is at c.in_ok-cut.ensures.cut in
    let g = c.in_ok-cut.ensures.grows in
    (one_more _ _ _ _ _ _ _ _ _ _ i.within k g i.bounded i.cut_to c.in_ok-push-2.ensures.items c.bound_at.ensures).bounded

pub returns-then-cut-clause-row : goal.returns-then-cut-clause-row
returns-then-cut-clause-row c =
    let i = c.loop-len.invariant in
    let k = rw c.in-Some-2.is at c.in_ok-cut.ensures.cut in
    let g = c.in_ok-cut.ensures.grows in
    (one_more _ _ _ _ _ _ _ _ _ _ i.within k g i.bounded i.cut_to c.in_ok-push-2.ensures.items c.bound_at.ensures).ends c.if-cut.true i.from_start

pub loop-len-preserved : goal.loop-len-preserved
loop-len-preserved c =
    let i = c.loop-len.invariant in
    let k = rw c.in-Some-2.is at c.in_ok-cut.ensures.cut in
    let g = c.in_ok-cut.ensures.grows in
    let more = one_more _ _ _ _ _ _ _ _ _ _ i.within k g i.bounded i.cut_to c.in_ok-push-2.ensures.items c.bound_at.ensures in
    let from = i.from_start in
    record {
      from_start = omega (arith, from);
      within = more.within;
      is_text = more.is_text;
      bounded = more.bounded;
      marks = c.in_ok-cut.ensures.marks;
      cut_to = more.goes_on c.if-cut.false;
    }

pub loop-len-preserved-then-self-at : goal.loop-len-preserved-then-self-at
loop-len-preserved-then-self-at c =
    let d = c.args.self.dialect.now in
    let text : List ℕ = c.args.self.text.now in
    let at = c.loop-len.at in
    let n = c.in-Some.len in
    let i = c.loop-len.invariant in
    let spare : List ℕ = c.loop-len.spare.items in
    let stands = get_or-drop at text n 0 ∙ c.if-self-at.true in
    let k = cut_before d c.args.self.symbols text spare at n c.args.self.lawful c.args.self.same_symbols i.is_text i.within c.in-Some.ensures.ahead stands in
    let item = c.lent.ensures ∙ moved_before at n in
    let more = one_more d text spare spare _ at (before_delimiter n) _ _ _ i.within k ([], sym (append-nil spare)) i.bounded i.cut_to
    c.in_ok-push.ensures.items item in
    let from = i.from_start in
    record {
      from_start = omega (arith, from);
      within = more.within;
      is_text = more.is_text;
      bounded = more.bounded;
      marks = c.next_symbol.ensures.marks;
      cut_to = more.goes_on refl;
    }
