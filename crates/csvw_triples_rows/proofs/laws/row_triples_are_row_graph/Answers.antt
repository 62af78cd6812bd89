use Rattle.csvw_triples_rows.proofs.ModeGraphs.{row_graph}
use Rattle.csvw_triples_rows.proofs.laws.row_triples_are_row_graph.Goals as goal

pub returns : goal.returns
returns c = row_graph
