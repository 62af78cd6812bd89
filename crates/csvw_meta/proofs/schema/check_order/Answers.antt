-- The fault is one of those of the rule over what could be read.
use Rattle.std.proofs.Common.{ℕ, []}
use Rattle.csvw_meta_core.specs.declared.fault.MetaCode.TheVariants.{VirtualOrder}
use Rattle.csvw_meta_core.specs.declared.fault.MetaFault.{MetaFault}
use Rattle.csvw_meta_core.specs.Pointer.{text_of, item_at}
use Rattle.csvw_meta.specs.Schema.{order_faults}
use Rattle.csvw_meta.proofs.ReadLemmas.{told_at}
use Rattle.csvw_meta.proofs.schema.check_order.Goals as goal

pub returns-in-Some : goal.returns-in-Some
returns-in-Some c =
    let at = text_of c.args.part.now.at in
    let fault : ℕ → MetaFault = λ i. record { code = VirtualOrder; pointer = item_at at i } in
    told_at c.refused.result (fault c.in-Some.i) (order_faults at [] c.args.columns.now) (c.in-Some.ensures fault)
    (rw c.item.ensures.at at c.refused.ensures)
