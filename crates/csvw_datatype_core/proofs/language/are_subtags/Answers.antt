-- The first part is taken off, and the rest has the other parts.
use Rattle.std.proofs.Common.{rules, sym, ◌∙◌, arith, Some, None}
use Rattle.std.proofs.lemmas.Str.Pattern.{split_parts}
use Rattle.csvw_datatype_core.proofs.SubtagLemmas.{refused, passed, last, same_and_true}
use Rattle.csvw_datatype_core.proofs.language.are_subtags.Goals as goal

pub returns-then-not-is_subtag : goal.returns-then-not-is_subtag
returns-then-not-is_subtag c =
    let p = split_parts 45 c.loop-subtag.rest.now (Some (c.in-Some.subtag, c.in-Some.after)) c.in-Some.ensures.cases (omega arith) in
    refused c.loop-subtag.rest.now c.in-Some.subtag.now c.in-Some.after.now c.is_subtag.result p.0 p.1 c.is_subtag.ensures c.if-not-is_subtag.true
    ∙ sym c.loop-subtag.invariant.0

pub loop-subtag-preserved : goal.loop-subtag-preserved
loop-subtag-preserved c =
    let p = split_parts 45 c.loop-subtag.rest.now (Some (c.in-Some.subtag, c.in-Some.after)) c.in-Some.ensures.cases (omega arith) in
    let step = passed c.loop-subtag.rest.now c.in-Some.subtag.now c.in-Some.after.now c.is_subtag.result p.0 p.1 c.is_subtag.ensures c.if-not-is_subtag.false in
    (c.loop-subtag.invariant.0 ∙ step, search rules)

pub returns : goal.returns
returns c =
    let free = split_parts 45 c.loop-subtag.rest.now None c.in_default.ensures.cases (omega arith) in
    c.is_subtag-2.ensures ∙ same_and_true _ ∙ sym (last c.loop-subtag.rest.now free) ∙ sym c.loop-subtag.invariant.0
