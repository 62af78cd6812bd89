-- One more column is misplaced or not.
use Rattle.std.proofs.Common.{◌∙◌, ap, false, get_or, map}
use Rattle.csvw_meta_faults.proofs.RepeatedLemmas.{misplaces, misplaces_done}
use Rattle.csvw_meta_faults.proofs.virtual_order.misplaced_at.Goals as goal

pub loop-i-preserved : goal.loop-i-preserved
loop-i-preserved c = λ fault.
    rw c.in_ok-push_if.ensures
    (misplaces (λ i. get_or c.args.known.now i false) fault _ c.loop-i.found.items c.loop-i.is_behind c.loop-i.i c.index-columns-i.result c.args.columns.now
    c.is_misplaced-misplaced.result c.is_behind_next-is_behind.result c.loop-i-test.true c.index-columns-i.is c.is_misplaced-misplaced.ensures
    c.is_behind_next-is_behind.ensures (c.loop-i.invariant fault))

pub returns : goal.returns
returns c = λ fault.
    ap (λ ks. map fault ks) c.of.ensures
    ∙ misplaces_done (λ i. get_or c.args.known.now i false) fault _ c.loop-i.found.items c.loop-i.is_behind c.loop-i.i c.args.columns.now c.loop-i-test.false
    (c.loop-i.invariant fault)
