use Rattle.std.proofs.Common.{rules, ◌++◌, ◌∙◌, ℕ, List, drop, ap, if◌then◌else◌}
use Rattle.std.specs.Prelude.{is_ok}
use Rattle.csvw_rows.proofs.SourceSteps.{added_text, added_rest}
use Rattle.csvw_rows.proofs.source.Source.add.Goals as goal

pub invariant_of-self-clause-within : goal.invariant_of-self-clause-within
invariant_of-self-clause-within c = search rules

pub invariant_of-self-clause-is_text : goal.invariant_of-self-clause-is_text
invariant_of-self-clause-is_text c =
    let s = c.args.self.now in
    let ok = is_ok c.extend_from_slice.result in
    let piece : List ℕ = c.unmarked.result.now in
    added_text c.extend_from_slice.result (drop s.taken s.text.items) piece c.extend_from_slice.new.self.items s.is_text c.unmarked.utf8
    (c.extend_from_slice.ensures.items
    ∙ ap (λ (l : List ℕ). if ok then c.drop_front.new.bytes.items ++ l else c.drop_front.new.bytes.items) c.as_bytes.ensures.value
    ∙ ap (λ (l : List ℕ). if ok then l ++ piece else l) c.drop_front.ensures)

pub returns-clause-rest : goal.returns-clause-rest
returns-clause-rest c =
    let s = c.args.self.now in
    let ok = is_ok c.extend_from_slice.result in
    let piece : List ℕ = c.unmarked.result.now in
    added_rest c.extend_from_slice.result (drop s.taken s.text.items) piece c.extend_from_slice.new.self.items _ s.is_text
    (c.extend_from_slice.ensures.items
    ∙ ap (λ (l : List ℕ). if ok then c.drop_front.new.bytes.items ++ l else c.drop_front.new.bytes.items) c.as_bytes.ensures.value
    ∙ ap (λ (l : List ℕ). if ok then l ++ piece else l) c.drop_front.ensures)
    c.unmarked.ensures
