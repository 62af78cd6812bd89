use Rattle.std.proofs.Common.{◌≡◌, ◌+◌, ◌∙◌, sym, ap, refl, false, ◌&&◌, ◌==◌, Some, map, length}
use Rattle.csvw_fields.specs.FieldLaws.{field_laws_of}
use Rattle.csvw_records.specs.RecordLaws.{laws_of}
use Rattle.std.specs.List.{list_all}
use Rattle.csvw_records.specs.Files.{is_empty}
use Rattle.csvw_records.specs.Grammar.{trimmed}
use Rattle.csvw_rows.specs.SourceState.{text_items}
use Rattle.csvw_rows.proofs.Bodies.{blank_none, blank_texts}
use Rattle.csvw_rows.proofs.RowSteps.{less_unread}
use Rattle.csvw_rows.proofs.States.{ignored_stays, row_gives, passes_to, and_true, and_left, and_right}
use Rattle.csvw_rows.proofs.rows.Rows.pass_fields.Goals as goal
use Rattle.csvw_rows.proofs.rows.Rows.pass_fields.Goals.{else-self-via-then-self+else-all_empty, else-self-via-else-self}

pub returns-then-all_empty-clause-turns : goal.returns-then-all_empty-clause-turns
returns-then-all_empty-clause-turns c =
    let s = c.args.self.now in
    let t = c.pass.new.self in
    let d = s.rules.dialect in
    let q = c.requires in
    let k = q.row.takes in
    let p = c.pass.ensures.passes q.row.len q.row.front in
    let texts = c.pass.ensures.fields ∙ q.texts in
    let blank = sym (blank_texts d.trim q.values) ∙ ap (list_all (λ x. length x == 0)) (sym texts)
    ∙ sym ((field_laws_of c.field_laws.ensures).empty_bounds (text_items t.source) t.spare.items t.fields.items t.bounded)
    ∙ ap (list_all (λ b. b.from == b.to)) (sym c.as_slice.ensures.value) ∙ sym c.all_empty.ensures ∙ c.if-all_empty.true in
    let skips = ap (λ r. r.dialect.skip_blank_rows) (sym p.rules) ∙ c.if-self.true in (
      p.ended,
      less_unread s t q.row.len p k.some k.within,
      ignored_stays (laws_of c.record_laws.ensures) s t q.row.len (Some (map (trimmed d.trim) q.values)) p c.pass.ensures.remained k
          (λ n. blank_none d n (map (trimmed d.trim) q.values) (and_true _ _ skips blank)),
    )

pub returns-clause-turns : goal.returns-clause-turns
returns-clause-turns c =
    let s = c.args.self.now in
    let t = c.pass.new.self in
    let d = s.rules.dialect in
    let q = c.requires in
    let k = q.row.takes in
    let p = c.pass.ensures.passes q.row.len q.row.front in
    let texts = c.pass.ensures.fields ∙ q.texts in
    let full : (d.skip_blank_rows && list_all is_empty (map (trimmed d.trim) q.values)) ≡ false = elim c.else-self.branch [
      | else-self-via-then-self+else-all_empty w ↦ and_right d.skip_blank_rows _
          (sym (blank_texts d.trim q.values) ∙ ap (list_all (λ x. length x == 0)) (sym texts)
          ∙ sym ((field_laws_of c.field_laws.ensures).empty_bounds (text_items t.source) t.spare.items t.fields.items t.bounded)
          ∙ ap (list_all (λ b. b.from == b.to)) (sym w.as_slice.ensures.value) ∙ sym w.all_empty.ensures ∙ w.if-all_empty.false)
      | else-self-via-else-self w ↦ and_left d.skip_blank_rows _ (ap (λ r. r.dialect.skip_blank_rows) (sym p.rules) ∙ w.if-self.false)
    ] in (
      p.ended,
      less_unread s t q.row.len p k.some k.within,
      row_gives (laws_of c.record_laws.ensures) s _ q.row.len q.values
          (passes_to s t _ q.row.len refl refl refl refl refl refl p) (ap (λ n. n + 1) c.pass.ensures.remained) k texts full,
    )
