-- By the rows that the states of the tables have.
use Rattle.csvw_group_laws.proofs.Parts.{took_all}
use Rattle.csvw_group_laws.proofs.laws.sessions_give_all.Goals as goal

pub returns : goal.returns
returns g c =
    let s = g.S.TripleSink in
    took_all s.gains s.is_open s.failed g.met.S.TripleSink.goes_on c.opening_is_the_graphs.ensures c.rows_triples_are_table_graph.ensures
    c.nothing_given.ensures
