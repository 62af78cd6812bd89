use Rattle.std.proofs.Common.{◌∙◌, ◌++◌, refl, ap, string_bytes, flat_map}
use Rattle.std.proofs.lemmas.List.{take_all}
use Rattle.csvw_template.specs.Name.{after_comma}
use Rattle.csvw_template.specs.Expand.{encoded, lead}
use Rattle.csvw_template.proofs.SignedLemmas.{list_written}
use Rattle.csvw_template.proofs.expand.push_list.Goals as goal

pub returns : goal.returns
returns c =
    let operator = c.args.operator in
    let front = lead operator c.args.is_first in
    let all = take_all c.loop-item.item-index c.in-Some.others.now c.loop-item-test.false in
    rw c.in-Some.ensures.cases.0 (
      refl,
      c.loop-item.invariant
          ∙ ap (λ xs. string_bytes c.push_encoded.new.out ++ flat_map (λ item. after_comma (encoded operator item)) xs) all
          ∙ ap (λ x. x ++ flat_map (λ item. after_comma (encoded operator item)) c.in-Some.others.now)
          (c.in_ok-push_encoded.ensures ∙ ap (λ x. x ++ encoded operator c.as_str.result.now) c.in_ok-push_lead.ensures
          ∙ ap (λ x. string_bytes c.args.out.now ++ front ++ encoded operator x) c.as_str.ensures)
          ∙ list_written operator (string_bytes c.args.out.now) front c.in-Some.first.now c.in-Some.others.now,
    )
