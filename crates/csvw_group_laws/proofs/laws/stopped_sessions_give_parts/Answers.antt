-- By the rows that the call left.
use Rattle.csvw_group_laws.proofs.Stopping.{took_by}
use Rattle.csvw_group_laws.proofs.laws.stopped_sessions_give_parts.Goals as goal

pub returns : goal.returns
returns g c =
    let s = g.S.TripleSink in
    λ sink start events event old new t reason opened ready h is_of takes.
    took_by s.gains s.cuts s.is_open s.failed g.met.S.TripleSink.goes_on c.opening_is_the_graphs.ensures c.rows_triples_are_table_graph.ensures
    c.row_triples_are_row_graph.ensures c.nothing_given.ensures c.texts_grow.ensures sink start events event old opened ready h new t is_of reason takes
