use Rattle.std.proofs.Common.{Bool, ◌∙◌, ◌≤◌, List, ℕ, length, drop, chars, sym, ap, subst}
use Rattle.csvw_fields.specs.FieldLaws.{field_laws_of}
use Rattle.csvw_records.specs.RecordLaws.{laws_of}
use Rattle.std.specs.Str.{is_utf8}
use Rattle.csvw_fields.specs.declared.draft.Reading.TheVariants as reading
use Rattle.csvw_fields.specs.Drafts.{read_of, values_of, IsRowRead, GoesOn}
use Rattle.csvw_rows.specs.SourceState.{rest_bytes, text_items}
use Rattle.csvw_rows.specs.NextRows.{is_last}
use Rattle.csvw_records.specs.AtFront.{IsShownLen}
use Rattle.csvw_rows.specs.RowsState.{IsOpenFront, after_of}
use Rattle.csvw_records.specs.Scan.{Found}
use Rattle.csvw_rows.proofs.OpenFronts.{draft_front, stopped_wrong, goes_back}
use Rattle.csvw_rows.proofs.rows.Rows.read_draft.Goals as goal

pub invariant_of-self-in-Ok-Ended-clause-drafted : goal.invariant_of-self-in-Ok-Ended-clause-drafted
invariant_of-self-in-Ok-Ended-clause-drafted c =
    let s = c.args.self.now in
    (field_laws_of c.field_laws.ensures).fresh_draft s.rules.dialect c.take_fields.new.self (rest_bytes s.source) c.take_fields.ensures.fresh s.source.is_text

pub invariant_of-self-in-Ok-Ended-clause-bounded : goal.invariant_of-self-in-Ok-Ended-clause-bounded
invariant_of-self-in-Ok-Ended-clause-bounded c =
    ((field_laws_of c.field_laws.ensures).apart_bounds
    (text_items c.args.self.now.source) c.take_fields.new.spare.items c.take_fields.new.fields.items c.take_fields.ensures.bounded).0

pub ended_row-requires-clause-read : goal.ended_row-requires-clause-read
ended_row-requires-clause-read c =
    let s = c.args.self.now in
    let d = s.rules.dialect in
    let t = c.go_on.new.self in
    let g : IsRowRead d c.is_last-is_last.result t c.rest.result.now = rw c.in-Ok-Ended.field-0-is at c.in-Ok-Ended.ensures in
    let r : IsRowRead d (is_last (after_of s)) t (rest_bytes s.source) =
    subst (λ (b : Bool). IsRowRead d b t (rest_bytes s.source)) c.is_last-is_last.ensures
    (subst (λ (l : List ℕ). IsRowRead d c.is_last-is_last.result t l) c.rest.ensures.value g) in
    let e = c.read_len-len.ensures in
    record {
      values = values_of t;
      within = subst (λ (n : ℕ). n ≤ length (rest_bytes s.source)) (sym e) r.within;
      back = ap (λ n. is_utf8 (drop n (rest_bytes s.source))) e ∙ r.back;
      found = r.found ∙ ap (λ n. Found (values_of t) (chars (drop n (rest_bytes s.source)))) (sym e);
      texts = ((field_laws_of c.field_laws.ensures).apart_bounds
          (text_items s.source) c.take_fields.new.spare.items c.take_fields.new.fields.items c.take_fields.ensures.bounded).1
          ∙ c.in_ok-take_fields-in-Ok-Ended.ensures.texts;
    }

pub invariant_of-self-in-Ok-Broken-clause-drafted : goal.invariant_of-self-in-Ok-Broken-clause-drafted
invariant_of-self-in-Ok-Broken-clause-drafted c =
    let s = c.args.self.now in
    (field_laws_of c.field_laws.ensures).fresh_draft s.rules.dialect c.clear.new.self (rest_bytes s.source) c.clear.ensures s.source.is_text

pub invariant_of-self-in-Err-clause-drafted : goal.invariant_of-self-in-Err-clause-drafted
invariant_of-self-in-Err-clause-drafted c =
    let s = c.args.self.now in
    (field_laws_of c.field_laws.ensures).fresh_draft s.rules.dialect c.clear-in-Err.new.self (rest_bytes s.source) c.clear-in-Err.ensures s.source.is_text

pub open_front-requires : goal.open_front-requires
open_front-requires c =
    let s = c.args.self.now in
    let d = s.rules.dialect in
    let k = c.requires in
    let t = c.go_on.new.self in
    let h : GoesOn d c.is_last-is_last.result t c.rest.result.now reading.Unfinished = rw c.in-Ok-Unfinished.field-0-is at c.in-Ok-Unfinished.ensures in
    let g : GoesOn d (is_last (after_of s)) t (rest_bytes s.source) reading.Unfinished =
    subst (λ (b : Bool). GoesOn d b t (rest_bytes s.source) reading.Unfinished) c.is_last-is_last.ensures
    (subst (λ (l : List ℕ). GoesOn d c.is_last-is_last.result t l reading.Unfinished) c.rest.ensures.value h) in
    subst (IsOpenFront _) (sym c.sure_len.ensures) (draft_front (laws_of c.record_laws.ensures) _
    (record { some = k.some; few = k.few; not_ignored = k.not_ignored; may_not = k.may_not }) g.0 g.1)

pub shown_len-len-requires-clause-within : goal.shown_len-len-requires-clause-within
shown_len-len-requires-clause-within c =
    let s = c.args.self.now in
    let d = s.rules.dialect in
    let t = c.go_on.new.self in
    let stop = c.in-Ok-Broken.stop in
    let h : GoesOn d c.is_last-is_last.result t c.rest.result.now (reading.Broken stop) = rw c.in-Ok-Broken.field-0-is at c.in-Ok-Broken.ensures in
    let g : GoesOn d (is_last (after_of s)) t (rest_bytes s.source) (reading.Broken stop) =
    subst (λ (b : Bool). GoesOn d b t (rest_bytes s.source) (reading.Broken stop)) c.is_last-is_last.ensures
    (subst (λ (l : List ℕ). GoesOn d c.is_last-is_last.result t l (reading.Broken stop)) c.rest.ensures.value h) in
    let place : ℕ = c.read_len-at.result in
    let within : place ≤ length (rest_bytes s.source) = subst (λ (n : ℕ). n ≤ length (rest_bytes s.source)) (sym c.read_len-at.ensures)
    ((goes_back d (is_last (after_of s)) t (rest_bytes s.source) stop g).0) in
    subst (λ (l : List ℕ). place ≤ length l) (sym c.rest-in-Ok-Broken.ensures.value) within

pub shown_len-len-requires-clause-text : goal.shown_len-len-requires-clause-text
shown_len-len-requires-clause-text c =
    let s = c.args.self.now in
    let d = s.rules.dialect in
    let t = c.go_on.new.self in
    let stop = c.in-Ok-Broken.stop in
    let h : GoesOn d c.is_last-is_last.result t c.rest.result.now (reading.Broken stop) = rw c.in-Ok-Broken.field-0-is at c.in-Ok-Broken.ensures in
    let g : GoesOn d (is_last (after_of s)) t (rest_bytes s.source) (reading.Broken stop) =
    subst (λ (b : Bool). GoesOn d b t (rest_bytes s.source) (reading.Broken stop)) c.is_last-is_last.ensures
    (subst (λ (l : List ℕ). GoesOn d c.is_last-is_last.result t l (reading.Broken stop)) c.rest.ensures.value h) in
    ap is_utf8 (ap (λ n. drop n c.rest-in-Ok-Broken.result.now) c.read_len-at.ensures ∙ ap (drop (read_of t)) c.rest-in-Ok-Broken.ensures.value)
    ∙ (goes_back d (is_last (after_of s)) t (rest_bytes s.source) stop g).1

pub broken_row-requires-clause-wrong : goal.broken_row-requires-clause-wrong
broken_row-requires-clause-wrong c =
    let k = c.requires in
    let s = c.args.self.now in
    let d = s.rules.dialect in
    let t = c.go_on.new.self in
    let stop = c.in-Ok-Broken.stop in
    let h : GoesOn d c.is_last-is_last.result t c.rest.result.now (reading.Broken stop) = rw c.in-Ok-Broken.field-0-is at c.in-Ok-Broken.ensures in
    let g : GoesOn d (is_last (after_of s)) t (rest_bytes s.source) (reading.Broken stop) =
    subst (λ (b : Bool). GoesOn d b t (rest_bytes s.source) (reading.Broken stop)) c.is_last-is_last.ensures
    (subst (λ (l : List ℕ). GoesOn d c.is_last-is_last.result t l (reading.Broken stop)) c.rest.ensures.value h) in
    let len = c.shown_len-len.result in
    let n : IsShownLen d (rest_bytes s.source) (read_of t) len =
    subst (λ (l : List ℕ). IsShownLen d l (read_of t) len) c.rest-in-Ok-Broken.ensures.value
    (subst (λ (m : ℕ). IsShownLen d c.rest-in-Ok-Broken.result.now m len) c.read_len-at.ensures c.shown_len-len.ensures) in
    stopped_wrong (laws_of c.record_laws.ensures) _ t len stop (record { some = k.some; few = k.few; not_ignored = k.not_ignored; may_not = k.may_not }) g n
