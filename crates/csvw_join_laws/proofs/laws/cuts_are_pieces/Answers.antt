-- Part by part, then table by table, and place by place.
use Rattle.csvw_join_laws.proofs.Places.{cuts_are_pieces}
use Rattle.csvw_join_laws.proofs.laws.cuts_are_pieces.Goals as goal

pub returns : goal.returns
returns g c = cuts_are_pieces c.rows_of_parts.ensures c.numbers_go_on.ensures g.R.Read.remaining
