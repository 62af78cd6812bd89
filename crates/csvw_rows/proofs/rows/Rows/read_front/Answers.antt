use Rattle.std.proofs.Common.{◌∙◌, ◌==◌, ◌<◌, List, ℕ, length, arith, sym, ap, subst}
use Rattle.csvw_records.specs.RecordLaws.{laws_of}
use Rattle.std.proofs.lemmas.Str.{IsUtf8-from_is_utf8}
use Rattle.csvw_records.specs.Files.{is_ignored}
use Rattle.csvw_rows.specs.NextRows.{is_last}
use Rattle.csvw_rows.specs.RowsState.{IsOpenFront, after_of}
use Rattle.csvw_rows.specs.SourceState.{rest_of, rest_bytes}
use Rattle.csvw_rows.proofs.TextLemmas.{text_empty}
use Rattle.csvw_rows.proofs.NextLemmas.{empty_of, some_of, many_stops}
use Rattle.csvw_rows.proofs.OpenFronts.{empty_waits_there, maybe_front, may_both, may_neither}
use Rattle.csvw_rows.proofs.rows.Rows.read_front.Goals as goal

pub waits-requires : goal.waits-requires
waits-requires c =
    let s = c.args.self.now in
    let u = IsUtf8-from_is_utf8 (rest_bytes s.source) s.source.is_text in
    empty_waits_there (laws_of c.record_laws.ensures) s (empty_of (rest_of s.source) (sym (text_empty (rest_bytes s.source) u)
    ∙ ap (λ (l : List ℕ). length l == 0) (sym c.rest.ensures.value) ∙ sym c.is_empty.ensures ∙ c.if-is_empty.true))

pub returns-then-self-clause-known : goal.returns-then-self-clause-known
returns-then-self-clause-known c =
    let s = c.args.self.now in
    let u = IsUtf8-from_is_utf8 (rest_bytes s.source) s.source.is_text in
    let some = some_of (rest_of s.source) (sym (text_empty (rest_bytes s.source) u) ∙ ap (λ (l : List ℕ). length l == 0) (sym c.rest.ensures.value)
    ∙ sym c.is_empty.ensures ∙ c.if-is_empty.false) in
    let many = c.if-self.true in
    let counted = s.counted in
    many_stops (is_last (after_of s)) s.rules.dialect s.max_rows s.row (rest_of s.source) (omega (arith, many, counted)) some

pub read_ignored-requires : goal.read_ignored-requires
read_ignored-requires c =
    let s = c.args.self.now in
    let u = IsUtf8-from_is_utf8 (rest_bytes s.source) s.source.is_text in
    record {
      some = some_of (rest_of s.source) (sym (text_empty (rest_bytes s.source) u) ∙ ap (λ (l : List ℕ). length l == 0) (sym c.rest.ensures.value)
          ∙ sym c.is_empty.ensures ∙ c.if-is_empty.false);
      few = (let h = c.if-self.false in omega (arith, h));
      ignored = ap (is_ignored s.rules.dialect s.row) (sym c.rest-2.ensures.chars) ∙ sym c.is_ignored.ensures ∙ c.if-is_ignored.true;
    }

pub open_front-requires : goal.open_front-requires
open_front-requires c =
    let s = c.args.self.now in
    let u = IsUtf8-from_is_utf8 (rest_bytes s.source) s.source.is_text in
    let some = some_of (rest_of s.source) (sym (text_empty (rest_bytes s.source) u) ∙ ap (λ (l : List ℕ). length l == 0) (sym c.rest.ensures.value)
    ∙ sym c.is_empty.ensures ∙ c.if-is_empty.false) in
    let few : s.row < s.max_rows = (let h = c.if-self.false in omega (arith, h)) in
    let not_ignored = ap (is_ignored s.rules.dialect s.row) (sym c.rest-2.ensures.chars) ∙ sym c.is_ignored.ensures ∙ c.if-is_ignored.false in
    let may = may_both _ _ (sym c.may_become_comment.ensures ∙ c.if-may_become_comment.true) in
    subst (IsOpenFront _) (ap length (sym c.rest-then-may_become_comment.ensures.value))
    (maybe_front (laws_of c.record_laws.ensures) _ some few not_ignored may.0 may.1)

pub read_draft-requires : goal.read_draft-requires
read_draft-requires c =
    let s = c.args.self.now in
    let u = IsUtf8-from_is_utf8 (rest_bytes s.source) s.source.is_text in
    record {
      some = some_of (rest_of s.source) (sym (text_empty (rest_bytes s.source) u) ∙ ap (λ (l : List ℕ). length l == 0) (sym c.rest.ensures.value)
          ∙ sym c.is_empty.ensures ∙ c.if-is_empty.false);
      few = (let h = c.if-self.false in omega (arith, h));
      not_ignored = ap (is_ignored s.rules.dialect s.row) (sym c.rest-2.ensures.chars) ∙ sym c.is_ignored.ensures ∙ c.if-is_ignored.false;
      may_not = λ e. may_neither _ _ (sym c.may_become_comment.ensures ∙ c.if-may_become_comment.false) e;
    }
