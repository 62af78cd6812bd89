use Rattle.std.proofs.Common.{rules, ◌≡◌, ◌∙◌, List, ℕ, map, chars, sym, ap}
use Rattle.std.specs.Prelude.{encode_utf8_all}
use Rattle.csvw_fields.specs.Bounds.{apart_all, texts_apart}
use Rattle.csvw_records.specs.Grammar.{trimmed}
use Rattle.csvw_fields.specs.Drafts.{values_of}
use Rattle.csvw_fields.proofs.BoundLemmas.{on_ok}
use Rattle.csvw_fields.proofs.DraftLemmas.{text_nil, encoded_all, map_twice}
use Rattle.csvw_fields.proofs.draft.Draft.give.Goals as goal

pub invariant_of-self-clause-within : goal.invariant_of-self-clause-within
invariant_of-self-clause-within c = search rules

pub invariant_of-self-clause-is_text : goal.invariant_of-self-clause-is_text
invariant_of-self-clause-is_text c = text_nil 0 _ (ap (λ v. v.items) c.swap.ensures.x_after ∙ c.clear-2.ensures.items)

pub invariant_of-self-clause-bounded : goal.invariant_of-self-clause-bounded
invariant_of-self-clause-bounded c = ap (apart_all c.swap.new.x.items) (ap (λ v. v.items) c.swap-in-No.ensures.x_after ∙ c.clear.ensures.items)

pub returns-in-No-clause-texts : goal.returns-in-No-clause-texts
returns-in-No-clause-texts c =
    let s = c.args.self.now in
    ap (λ v. texts_apart v.items c.swap-in-No.new.y.items) c.swap.ensures.y_after
    ∙ ap (λ v. texts_apart s.texts.items v.items) c.swap-in-No.ensures.y_after ∙ encoded_all s.texts.items s.bounds.items s.bounded
    ∙ sym (ap (λ t. map (λ x. encode_utf8_all (trimmed t x)) (values_of s)) c.in-No.is)

pub invariant_of-self-in-Start-clause-within : goal.invariant_of-self-in-Start-clause-within
invariant_of-self-in-Start-clause-within c = search rules

pub invariant_of-self-in-Start-clause-is_text : goal.invariant_of-self-in-Start-clause-is_text
invariant_of-self-in-Start-clause-is_text c = text_nil 0 _ (ap (λ v. v.items) c.swap.ensures.x_after ∙ c.clear-2.ensures.items)

pub invariant_of-self-in-Start-clause-bounded : goal.invariant_of-self-in-Start-clause-bounded
invariant_of-self-in-Start-clause-bounded c = ap (apart_all c.swap.new.x.items) c.clear-in-Start.ensures.items

pub returns-in-Start-clause-texts : goal.returns-in-Start-clause-texts
returns-in-Start-clause-texts c =
    let s = c.args.self.now in
    let f = λ (x : List ℕ). encode_utf8_all (trimmed c.args.trim x) in
    let texts : c.as_slice.result.now ≡ s.texts.items = c.as_slice.ensures.value ∙ ap (λ v. v.items) c.swap.ensures.y_after in
    on_ok c.trim_fields-given.result _ _ (λ e. ap (λ v. texts_apart v.items c.trim_fields-given.new.fields.items) c.swap.ensures.y_after
    ∙ ap (λ l. texts_apart l c.trim_fields-given.new.fields.items) (sym texts) ∙ e
    ∙ ap (λ l. map (λ x. f (chars x)) (texts_apart l c.as_slice-in-Start.result.now)) texts
    ∙ ap (λ l. map (λ x. f (chars x)) (texts_apart s.texts.items l)) c.as_slice-in-Start.ensures.value
    ∙ sym (map_twice f chars (texts_apart s.texts.items s.bounds.items))) c.trim_fields-given.ensures.texts
