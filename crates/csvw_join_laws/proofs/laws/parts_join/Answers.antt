-- Table by table, and then part by part.
use Rattle.csvw_join_laws.proofs.Joins.{parts_join}
use Rattle.csvw_join_laws.proofs.laws.parts_join.Goals as goal

pub returns : goal.returns
returns c = parts_join
