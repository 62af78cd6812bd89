-- Part by part, and then all together.
use Rattle.csvw_join_laws.proofs.RunsJoined.{runs_join}
use Rattle.csvw_join_laws.proofs.laws.runs_join.Goals as goal

pub returns : goal.returns
returns g c =
    runs_join g.F.Read.remaining _ _ c.find_rows.ensures c.parts_give.ensures c.cuts_are_pieces.ensures c.parts_join.ensures c.keys_join.ensures
    c.parts_have_all_records.ensures c.opening_is_the_graphs.ensures c.rows_triples_are_table_graph.ensures
