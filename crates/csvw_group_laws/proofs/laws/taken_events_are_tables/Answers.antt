-- By the rows of the states of the tables.
use Rattle.csvw_group_laws.proofs.Taking.{are_taken}
use Rattle.csvw_group_laws.proofs.laws.taken_events_are_tables.Goals as goal

pub returns : goal.returns
returns g c =
    let s = g.S.TripleSink in
    are_taken s.gains s.is_open s.failed c.nothing_given.ensures c.files_have_no_stop.ensures
