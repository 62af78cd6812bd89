use Rattle.std.proofs.Common.{rules, ◌∙◌, ℕ, List, ap, chars, map}
use Rattle.csvw_fields.proofs.DraftLemmas.{kept_text, kept_apart, kept_current, one_char}
use Rattle.csvw_fields.proofs.draft.Draft.keep.Goals as goal

pub invariant_of-self-clause-within : goal.invariant_of-self-clause-within
invariant_of-self-clause-within c = search rules

pub invariant_of-self-clause-is_text : goal.invariant_of-self-clause-is_text
invariant_of-self-clause-is_text c =
    let s = c.args.self.now in
    kept_text c.extend_from_slice.result s.from s.texts.items c.as_bytes.result.now c.extend_from_slice.new.self.items s.within s.is_text
    c.as_bytes.ensures.utf8 c.extend_from_slice.ensures.items

pub invariant_of-self-clause-bounded : goal.invariant_of-self-clause-bounded
invariant_of-self-clause-bounded c =
    let s = c.args.self.now in
    (kept_apart c.extend_from_slice.result s.texts.items c.as_bytes.result.now c.extend_from_slice.new.self.items s.bounds.items s.bounded
    c.extend_from_slice.ensures.items).0

pub returns-clause-values : goal.returns-clause-values
returns-clause-values c =
    let s = c.args.self.now in
    ap (map chars) ((kept_apart c.extend_from_slice.result s.texts.items c.as_bytes.result.now c.extend_from_slice.new.self.items s.bounds.items
    s.bounded c.extend_from_slice.ensures.items).1)

pub returns-clause-current : goal.returns-clause-current
returns-clause-current c =
    let s = c.args.self.now in
    let piece : List ℕ = c.as_bytes.result.now in
    kept_current c.extend_from_slice.result s.from c.args.c s.texts.items piece c.extend_from_slice.new.self.items s.within s.is_text c.as_bytes.ensures.utf8
    (one_char piece c.args.c c.as_bytes.ensures.utf8 (c.as_bytes.ensures.value ∙ c.encode_utf8-text.ensures.value)) c.extend_from_slice.ensures.items
