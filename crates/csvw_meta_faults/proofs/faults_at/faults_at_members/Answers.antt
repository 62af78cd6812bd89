-- One more fault.
use Rattle.std.proofs.Common.{◌∙◌, ℕ, ap}
use Rattle.csvw_meta_core.specs.declared.fault.MetaFault.{MetaFault}
use Rattle.csvw_meta_core.specs.Pointer.{below, item_at, text_of}
use Rattle.csvw_meta_faults.proofs.ItemsLemmas.{mapped_at}
use Rattle.csvw_meta_faults.proofs.faults_at.faults_at_members.Goals as goal

pub loop-index-preserved : goal.loop-index-preserved
loop-index-preserved c =
    let fault : ℕ → MetaFault = λ i. record { code = c.args.code; pointer = below (item_at (text_of c.args.part.now.at) i) c.args.name.now } in
    c.in_ok-push.ensures.items
    ∙ mapped_at fault c.args.indices.now c.loop-index.index-index _ c.loop-index.faults.items _ c.loop-index-test.true c.loop-index.invariant
    (ap (λ p. record { code = c.args.code; pointer = p }) c.in_ok-pointer.ensures)
