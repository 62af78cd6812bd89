use Rattle.std.proofs.Common.{rules, ◌≡◌, ◌∙◌, length, Ok, sym}
use Rattle.csvw_fields.specs.Drafts.{state_of, values_of, current_of}
use Rattle.csvw_fields.proofs.DraftLemmas.{closed_current, text_gone, open_runs}
use Rattle.csvw_fields.proofs.draft.Draft.step.Goals as goal

pub invariant_of-self-in-Open-clause-within : goal.invariant_of-self-in-Open-clause-within
invariant_of-self-in-Open-clause-within c = search rules

pub invariant_of-self-in-Open-clause-is_text : goal.invariant_of-self-in-Open-clause-is_text
invariant_of-self-in-Open-clause-is_text c =
    let to : c.len-self.result ≡ length c.args.self.now.texts.items = search rules in
    text_gone c.args.self.now.texts.items c.len-self.result to

pub returns-in-Open-clause-steps : goal.returns-in-Open-clause-steps
returns-in-Open-clause-steps c = λ cs e.
    let s = c.args.self.now in
    let to : c.len-self.result ≡ length s.texts.items = search rules in
    open_runs c.args.d.now (state_of s) (values_of s) (current_of s) _ c.args.c cs c.args.ends e (sym c.next_step.ensures ∙ c.in-Open.is)
    (closed_current {T = Unit {0}} {E = Unit {0}} (Ok tt) s.texts.items c.len-self.result to)
