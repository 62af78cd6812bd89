use Rattle.std.proofs.Common.{rules, ◌≡◌, length, true, Ok, refl}
use Rattle.csvw_fields.specs.declared.bound.Bound.{Bound}
use Rattle.csvw_fields.proofs.DraftLemmas.{closed_apart, closed_values, closed_current, text_gone}
use Rattle.csvw_fields.proofs.draft.Draft.close_field.Goals as goal

pub invariant_of-self-2-clause-within : goal.invariant_of-self-2-clause-within
invariant_of-self-2-clause-within c = search rules

pub invariant_of-self-2-clause-is_text : goal.invariant_of-self-2-clause-is_text
invariant_of-self-2-clause-is_text c =
    let to : c.len-to.result ≡ length c.args.self.now.texts.items = search rules in
    text_gone c.args.self.now.texts.items c.len-to.result to

pub invariant_of-self-2-clause-bounded : goal.invariant_of-self-2-clause-bounded
invariant_of-self-2-clause-bounded c =
    let s = c.args.self.now in
    let to : c.len-to.result ≡ length c.args.self.now.texts.items = search rules in
    let b : Bound = record { from = s.from; to = c.len-to.result; apart = true } in
    closed_apart c.push.result s.texts.items s.bounds.items c.push.new.self.items b s.bounded s.within to refl s.is_text c.push.ensures.items

pub returns-clause-values : goal.returns-clause-values
returns-clause-values c =
    let s = c.args.self.now in
    let to : c.len-to.result ≡ length c.args.self.now.texts.items = search rules in
    let b : Bound = record { from = s.from; to = c.len-to.result; apart = true } in
    closed_values {T = Unit {0}} {E = Unit {0}} (Ok tt) s.texts.items s.bounds.items c.push.new.self.items b s.within to c.in_ok-push.ensures.items

pub returns-clause-current : goal.returns-clause-current
returns-clause-current c =
    let to : c.len-to.result ≡ length c.args.self.now.texts.items = search rules in
    closed_current {T = Unit {0}} {E = Unit {0}} (Ok tt) c.args.self.now.texts.items c.len-to.result to
