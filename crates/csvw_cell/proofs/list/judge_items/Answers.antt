-- One more item, or no item if the part is null.
use Rattle.std.proofs.Common.{◌∙◌, ◌++◌, sym, ap, subst, List, ℕ}
use Rattle.csvw_cell.specs.CellOf as cell
use Rattle.csvw_fault.specs.declared.fault.Code.{Code}
use Rattle.csvw_datatype.specs.declared.datatype.Datatype.{Datatype}
use Rattle.csvw_cell.proofs.ListLemmas.{no_item, one_item}
use Rattle.csvw_cell.proofs.list.judge_items.Goals as goal

pub loop-part-preserved : goal.loop-part-preserved
loop-part-preserved c =
    let text : List ℕ = c.item_text-text.result.now in
    let item = c.judge.new.item in
    let its : List Code = c.in_ok-its.its in
    let kept = sym c.is_null.ensures ∙ c.if-is_null.false in
    let judged = subst (λ (d : Datatype). cell.IsItem d text item its) c.get.ensures c.in_ok-its.ensures in
    one_item _ c.args.properties.now c.args.parts.now c.loop-part.part-index _ text item its c.loop-part.items.items _ c.loop-part.causes.items _
    c.loop-part-test.true c.item_text-text.ensures kept judged c.in_ok-push.ensures.items
    (c.in_ok-extend_from_slice.ensures.items ∙ ap (λ l. c.loop-part.causes.items ++ l) c.as_slice.ensures) c.loop-part.invariant

pub loop-part-preserved-then-is_null : goal.loop-part-preserved-then-is_null
loop-part-preserved-then-is_null c =
    let text : List ℕ = c.item_text-text.result.now in
    let null = sym c.is_null.ensures ∙ c.if-is_null.true in
    no_item _ c.args.properties.now c.args.parts.now c.loop-part.part-index _ text c.loop-part.items.items c.loop-part.causes.items
    c.loop-part-test.true c.item_text-text.ensures null c.loop-part.invariant
