-- Piece by piece.
use Rattle.csvw_join_laws.proofs.Running.{parts_give}
use Rattle.csvw_join_laws.proofs.laws.parts_give.Goals as goal

pub returns : goal.returns
returns g c = parts_give c.record_laws.ensures c.rows_of_parts.ensures c.numbers_go_on.ensures _ _
