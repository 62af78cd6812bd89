use Rattle.csvw_triples_rows.proofs.ModeGraphs.{table_graph}
use Rattle.csvw_triples_rows.proofs.laws.rows_triples_are_table_graph.Goals as goal

pub returns : goal.returns
returns c = table_graph
