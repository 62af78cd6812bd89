-- By the rows of both pieces.
use Rattle.csvw_parts.proofs.Joining.{pieces_join}
use Rattle.csvw_parts.proofs.laws.pieces_join.Goals as goal

pub returns : goal.returns
returns c = pieces_join
