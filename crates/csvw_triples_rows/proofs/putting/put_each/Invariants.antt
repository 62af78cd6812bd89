-- The triples passed so far were put.
use Rattle.std.proofs.Common.{drop}
use Rattle.csvw_triples_rows.proofs.Walking.{Walked}
use Rattle.csvw_triples_rows.proofs.putting.put_each.Given as goal

abbrev pub invariant-loop-triple : goal.invariant-loop-triple
invariant-loop-triple g l =
    let s = g.S.TripleSink in
    Walked s.gains s.cuts s.is_open s.failed l.initial.sink l.triples (drop l.triple-index l.triples) l.sink
