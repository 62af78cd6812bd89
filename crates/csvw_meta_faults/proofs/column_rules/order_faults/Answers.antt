-- The columns that are known are those that the definition says.
use Rattle.std.proofs.Common.{◌≡◌, ◌∙◌, IfOk, List, arith, codes, false, get_or, length, subst, ℕ}
use Rattle.csvw_meta_core.specs.declared.fault.MetaCode.TheVariants.{VirtualOrder}
use Rattle.csvw_meta_core.specs.declared.fault.MetaFault.{MetaFault}
use Rattle.csvw_meta_core.specs.Pointer.{item_at, text_of}
use Rattle.csvw_meta_core.specs.Rules.{could_read_property}
use Rattle.csvw_meta_faults.specs.Flags.{AreFlags}
use Rattle.csvw_meta_faults.proofs.RepeatedLemmas.{misplaced_same}
use Rattle.csvw_meta_faults.proofs.column_rules.order_faults.Goals as goal

pub returns : goal.returns
returns c =
    let at = text_of c.args.part.now.at in
    let cs = c.args.columns.now in
    let test = λ (i : ℕ). could_read_property c.args.own.now (item_at at i) (codes "virtual") in
    let fault : ℕ → MetaFault = λ i. record { code = VirtualOrder; pointer = item_at at i } in
    let found = rw c.as_slice.ensures.value at (c.in_ok-indices.ensures fault) in
    let known : AreFlags test (length cs) c.in_ok-known.known.items = c.in_ok-known.ensures in
    let same = misplaced_same (λ i. get_or c.in_ok-known.known.items i false) test fault false 0 cs
    (λ j low high. known.each j (omega (arith, high))) in
    subst (λ (all : List MetaFault). IfOk c.faults_at_items.result (λ fs. fs ≡ all)) (found ∙ same) (rw c.as_slice-2.ensures at c.faults_at_items.ensures)
