use Rattle.std.proofs.Common.{rules, ◌≡◌, ◌∙◌, ℕ, ◌+◌, ◌-◌, List, ◌++◌, length, take, drop, map, chars, arith, sym, ap, Ok}
use Rattle.std.specs.Str.{is_utf8, IsCharBoundary}
use Rattle.std.proofs.lemmas.Str.{IsUtf8-drop, is_utf8-from_IsUtf8}
use Rattle.csvw_fields.specs.Bounds.{texts_apart}
use Rattle.csvw_fields.specs.Drafts.{values_of, current_of}
use Rattle.csvw_records.specs.Scan.{run}
use Rattle.csvw_fields.proofs.DraftLemmas.{kept_text, kept_apart, kept_texts}
use Rattle.csvw_fields.proofs.QuoteLemmas.{ascii_boundary, quotes_run}
use Rattle.csvw_fields.proofs.draft.Draft.keep_quotes.Goals as goal

pub split_at-requires : goal.split_at-requires
split_at-requires c =
    let h = c.doubled_quotes-count.ensures in
    let w = h.within in
    let a = h.ascii in
    ascii_boundary c.args.rest.now c.doubled_quotes-count.result c.utf8.rest (omega (arith, w))
    (λ k m. let e = h.quotes k (omega (arith, m)) in omega (arith, e, a))

pub split_at-requires-2 : goal.split_at-requires-2
split_at-requires-2 c =
    let h = c.doubled_quotes-count.ensures in
    let a = h.ascii in
    let n = c.doubled_quotes-count.result in
    ascii_boundary c.args.rest.now (n + n) c.utf8.rest h.within (λ k m. let e = h.quotes k m in omega (arith, e, a))

pub invariant_of-self : goal.invariant_of-self
invariant_of-self c =
    let s = c.args.self.now in
    let new = c.extend_from_slice.new.self.items in
    record {
      within = search rules;
      is_text = kept_text c.extend_from_slice.result s.from s.texts.items c.as_bytes.result.now new s.within s.is_text
          c.as_bytes.ensures.utf8 c.extend_from_slice.ensures.items;
      bounded = (kept_apart c.extend_from_slice.result s.texts.items c.as_bytes.result.now new s.bounds.items s.bounded
          c.extend_from_slice.ensures.items).0;
    }

pub returns-clause-keeps : goal.returns-clause-keeps
returns-clause-keeps c =
    let s = c.args.self.now in
    let d = c.args.rules.now.dialect in
    let rest : List ℕ = c.args.rest.now in
    let left : List ℕ = c.split_at-2.result.1.now in
    let n = c.doubled_quotes-count.result in
    let h = c.doubled_quotes-count.ensures in
    let a = h.ascii in
    let long = c.split_at-2.ensures.back_len in
    let boundary : IsCharBoundary rest (n + n) = ascii_boundary rest (n + n) c.utf8.rest h.within (λ k m. let e = h.quotes k m in omega (arith, e, a)) in
    let grown : c.extend_from_slice.new.self.items ≡ s.texts.items ++ take n rest = c.in_ok-extend_from_slice.ensures.items
    ∙ ap (λ l. s.texts.items ++ l) (c.as_bytes.ensures.value ∙ c.split_at.ensures.front) in
    let values = ap (map chars) ((kept_apart {T = Unit {0}} {E = Unit {0}} (Ok tt) s.texts.items
    (take n rest) c.extend_from_slice.new.self.items s.bounds.items s.bounded grown).1) in
    let current = kept_texts s.from s.texts.items (take n rest) c.extend_from_slice.new.self.items s.within s.is_text grown in
    let same : length rest - length left ≡ n + n = (let w = h.within in omega (arith, long, w)) in
    let kept = map chars (texts_apart c.extend_from_slice.new.self.items s.bounds.items) in
    record {
      within = omega (arith, long);
      is_text = ap is_utf8 c.split_at-2.ensures.back ∙ is_utf8-from_IsUtf8 (drop (n + n) rest) (IsUtf8-drop rest (n + n) c.utf8.rest boundary);
      back = ap (λ m. drop m rest) same ∙ sym c.split_at-2.ensures.back;
      runs = quotes_run d s.state (values_of s) (current_of s) rest n c.args.rules.now.lawful h
          ∙ ap (λ vs. run d s.state vs (current_of s ++ chars (take n rest)) (chars (drop (n + n) rest))) (sym values)
          ∙ ap (λ cur. run d s.state kept cur (chars (drop (n + n) rest))) (sym current)
          ∙ ap (λ l. run d s.state kept (chars (drop s.from c.extend_from_slice.new.self.items)) (chars l)) (sym c.split_at-2.ensures.back);
    }
