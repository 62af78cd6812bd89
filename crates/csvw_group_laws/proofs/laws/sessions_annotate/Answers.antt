-- By the tables at the end.
use Rattle.csvw_group_laws.proofs.Annotating.{annotates}
use Rattle.csvw_group_laws.proofs.laws.sessions_annotate.Goals as goal

pub returns : goal.returns
returns g c =
    let s = g.S.TripleSink in
    annotates s.gains s.is_open s.failed g.met.S.TripleSink.goes_on c.opening_is_the_graphs.ensures c.rows_triples_are_table_graph.ensures
