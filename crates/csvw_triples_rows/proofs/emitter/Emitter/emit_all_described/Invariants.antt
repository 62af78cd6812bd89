-- The triples of the cells passed so far were put.
use Rattle.std.specs.Prelude.{None, option_copied}
use Rattle.std.specs.List.{zip}
use Rattle.csvw_triples_rows.specs.StandardTriples.{described_cells}
use Rattle.csvw_triples_rows.proofs.Walking.{Walked, from}
use Rattle.csvw_triples_rows.proofs.emitter.Emitter.emit_all_described.Given as goal

abbrev pub invariant-loop-i : goal.invariant-loop-i
invariant-loop-i g l =
    let s = g.S.TripleSink in
    Walked s.gains s.cuts s.is_open s.failed l.initial.sink (described_cells l.place.table l.place.row None (zip l.columns l.cells))
    (from l.place.table l.place.row l.columns l.cells l.i (option_copied l.last)) l.sink
