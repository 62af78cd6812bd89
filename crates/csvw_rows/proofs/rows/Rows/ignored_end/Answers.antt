use Rattle.std.proofs.Common.{◌∙◌, List, ℕ, None, Some, length, sym, ap, subst}
use Rattle.csvw_records.specs.RecordLaws.{laws_of}
use Rattle.csvw_rows.specs.IgnoredRows.{IsLineEnd}
use Rattle.csvw_rows.specs.SourceState.{rest_bytes}
use Rattle.csvw_rows.proofs.DraftRows.{line_ends, none_ends, last_ends}
use Rattle.csvw_rows.proofs.rows.Rows.ignored_end.Goals as goal

pub returns-in-Some : goal.returns-in-Some
returns-in-Some c =
    let s = c.args.self.now in
    let text = c.as_bytes.ensures.value ∙ c.rest-rest.ensures.value in
    line_ends (laws_of c.record_laws.ensures) s c.in-Some.len (subst (λ (l : List ℕ). IsLineEnd s.rules.dialect l s.searched (Some c.in-Some.len)) text
    (rw c.in-Some.is at c.line_end.ensures))

pub returns-in-None : goal.returns-in-None
returns-in-None c =
    let s = c.args.self.now in
    let text = c.as_bytes.ensures.value ∙ c.rest-rest.ensures.value in
    let none : IsLineEnd s.rules.dialect (rest_bytes s.source) s.searched None =
    subst (λ (l : List ℕ). IsLineEnd s.rules.dialect l s.searched None) text (rw c.in-None.is at c.line_end.ensures) in
    last_ends (laws_of c.record_laws.ensures) s _ (ap length c.rest-rest.ensures.value) (sym c.is_last.ensures ∙ c.if-is_last.true) (none_ends s none)

pub returns-in-None-2 : goal.returns-in-None-2
returns-in-None-2 c =
    let s = c.args.self.now in
    let text = c.as_bytes.ensures.value ∙ c.rest-rest.ensures.value in
    let none : IsLineEnd s.rules.dialect (rest_bytes s.source) s.searched None =
    subst (λ (l : List ℕ). IsLineEnd s.rules.dialect l s.searched None) text (rw c.in-None-2.is at c.line_end.ensures) in
    (none_ends s none, sym c.is_last.ensures ∙ c.if-is_last.false)
