-- The piece begins a file or goes on in one.
use Rattle.csvw_part_plan.proofs.Chains.{tile_more}
use Rattle.csvw_part_plan.proofs.laws.tiling_goes_on.Goals as goal

pub returns : goal.returns
returns c = tile_more
