-- A reader that skips keeps its text, of which nothing is unread.
use Rattle.std.proofs.Common.{◌≡◌, ◌∙◌, ◌≤◌, ◌++◌, ℕ, List, refl, sym, ap, subst, arith}
use Rattle.csvw_fields.specs.Bounds.{are_bounds}
use Rattle.csvw_fields.specs.Drafts.{IsDraft}
use Rattle.csvw_fields.specs.Marked.{is_symbol, AreMarks}
use Rattle.csvw_records.specs.RecordLaws.{laws_of}
use Rattle.csvw_rows.specs.IgnoredRows.{IsSearched}
use Rattle.csvw_rows.specs.SourceState.{unread_bytes_in}
use Rattle.csvw_rows.proofs.Skips.{skip_holds}
use Rattle.csvw_rows.proofs.rows.Rows.skip_to.Goals as goal

pub invariant_of-self-clause-drafted : goal.invariant_of-self-clause-drafted
invariant_of-self-clause-drafted c =
    let s = c.args.self.now in
    subst (IsDraft s.rules.dialect s.draft) (sym c.begin.ensures.rest) s.drafted

pub invariant_of-self-clause-none_ends : goal.invariant_of-self-clause-none_ends
invariant_of-self-clause-none_ends c =
    let s = c.args.self.now in
    subst (IsSearched s.rules.dialect s.searched) (sym c.begin.ensures.rest) s.none_ends

pub invariant_of-self-clause-bounded : goal.invariant_of-self-clause-bounded
invariant_of-self-clause-bounded c =
    let s = c.args.self.now in
    ap (λ l. are_bounds l s.spare.items s.fields.items) c.begin.ensures.items ∙ s.bounded

pub invariant_of-self-clause-marked : goal.invariant_of-self-clause-marked
invariant_of-self-clause-marked c s is =
    let r = c.args.self.now in
    subst (λ (l : List ℕ). AreMarks (is_symbol s) l r.marks) (sym c.begin.ensures.items) (r.marked s is)

pub returns-clause-skips : goal.returns-clause-skips
returns-clause-skips c = λ _. record {
  reading = refl;
  not_ended = c.if-self.false;
  goes_on = λ d max bytes between given whole h w rows remained.
      let s = c.args.self.now in
      let none : unread_bytes_in s.source ≡ 0 =
      (let e = c.unread_bytes.ensures in let f = c.if-unread_bytes-gt0.false in omega (arith, e, f)) in
      let few : c.args.rows ≤ s.max_rows = (let f = c.if-rows-self.false in omega (arith, f)) in
      skip_holds (laws_of c.record_laws.ensures) s _ d max bytes (bytes ++ between) given whole h w refl refl refl refl none
      c.begin.ensures.rest c.begin.ensures.pending c.begin.ensures.bad c.begin.ensures.begun rows remained few;
}
