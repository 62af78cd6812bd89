use Rattle.std.proofs.Common.{◌∙◌, ◌<◌, min, slice_index_or}
use Rattle.csvw_cell.proofs.NormalLemmas.{four_others}
use Rattle.csvw_cell.proofs.normal.has_space_byte.Goals as goal

pub loop-rest-preserved : goal.loop-rest-preserved
loop-rest-preserved c =
    let rest = c.loop-rest.rest.now in
    let above : 32 < min (min (slice_index_or rest 0 0) (slice_index_or rest 1 0)) (min (slice_index_or rest 2 0) (slice_index_or rest 3 0)) =
    rw (← c.min.ensures, ← c.min-in-loop-rest.ensures, ← c.min-in-loop-rest-2.ensures) c.if-min-gt32.true in
    four_others rest c.in-len4-up.len_at_least above ∙ c.loop-rest.invariant
