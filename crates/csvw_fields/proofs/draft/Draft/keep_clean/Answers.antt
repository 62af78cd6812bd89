use Rattle.std.proofs.Common.{rules, ◌≡◌, ◌∙◌, ◌-◌, List, ℕ, ◌++◌, length, take, drop, map, chars, arith, sym, ap, Ok}
use Rattle.csvw_records.specs.RecordLaws.{laws_of}
use Rattle.std.proofs.lemmas.Str.{IsUtf8-take, IsUtf8-drop, is_utf8-from_IsUtf8}
use Rattle.std.specs.Str.{is_utf8}
use Rattle.csvw_fields.specs.Bounds.{texts_apart}
use Rattle.csvw_fields.specs.Drafts.{values_of, current_of}
use Rattle.csvw_records.specs.Scan.{run}
use Rattle.csvw_fields.proofs.Ascii.{split_chars}
use Rattle.csvw_fields.proofs.CleanLemmas.{clean_runs}
use Rattle.csvw_fields.proofs.DraftLemmas.{kept_text, kept_apart, kept_texts}
use Rattle.csvw_fields.proofs.draft.Draft.keep_clean.Goals as goal

pub invariant_of-self-clause-within : goal.invariant_of-self-clause-within
invariant_of-self-clause-within c = search rules

pub invariant_of-self-clause-is_text : goal.invariant_of-self-clause-is_text
invariant_of-self-clause-is_text c =
    let s = c.args.self.now in
    kept_text c.extend_from_slice.result s.from s.texts.items c.as_bytes.result.now c.extend_from_slice.new.self.items s.within s.is_text
    c.as_bytes.ensures.utf8 c.extend_from_slice.ensures.items

pub invariant_of-self-clause-bounded : goal.invariant_of-self-clause-bounded
invariant_of-self-clause-bounded c =
    let s = c.args.self.now in
    (kept_apart c.extend_from_slice.result s.texts.items c.as_bytes.result.now c.extend_from_slice.new.self.items s.bounds.items s.bounded
    c.extend_from_slice.ensures.items).0

pub returns-clause-keeps : goal.returns-clause-keeps
returns-clause-keeps c =
    let s = c.args.self.now in
    let d = c.args.rules.now.dialect in
    let rest : List ℕ = c.args.rest.now in
    let left : List ℕ = c.split_at.result.1.now in
    let n = c.clean_len-len.result in
    let u = IsUtf8-take rest n c.utf8.rest c.clean_len-len.ensures.boundary in
    let long = c.split_at.ensures.back_len in
    let grown : c.extend_from_slice.new.self.items ≡ s.texts.items ++ take n rest = c.in_ok-extend_from_slice.ensures.items
    ∙ ap (λ l. s.texts.items ++ l) (c.as_bytes.ensures.value ∙ c.split_at.ensures.front) in
    let values = ap (map chars) ((kept_apart {T = Unit {0}} {E = Unit {0}} (Ok tt) s.texts.items
    (take n rest) c.extend_from_slice.new.self.items s.bounds.items s.bounded grown).1) in
    let current = kept_texts s.from s.texts.items (take n rest) c.extend_from_slice.new.self.items s.within s.is_text grown in
    let same : length rest - length left ≡ n = omega (arith, long) in
    let kept = map chars (texts_apart c.extend_from_slice.new.self.items s.bounds.items) in
    record {
      within = omega (arith, long);
      is_text = ap is_utf8 c.split_at.ensures.back ∙ is_utf8-from_IsUtf8 (drop n rest) (IsUtf8-drop rest n c.utf8.rest c.clean_len-len.ensures.boundary);
      back = ap (λ m. drop m rest) same ∙ sym c.split_at.ensures.back;
      runs = ap (run d s.state (values_of s) (current_of s)) (split_chars rest n u)
          ∙ clean_runs (laws_of c.record_laws.ensures) d s.state (values_of s) (current_of s) (chars (take n rest))
          (chars (drop n rest)) c.clean_len-len.ensures.clean
          ∙ ap (λ vs. run d s.state vs (current_of s ++ chars (take n rest)) (chars (drop n rest))) (sym values)
          ∙ ap (λ cur. run d s.state kept cur (chars (drop n rest))) (sym current)
          ∙ ap (λ l. run d s.state kept (chars (drop s.from c.extend_from_slice.new.self.items)) (chars l)) (sym c.split_at.ensures.back);
    }
