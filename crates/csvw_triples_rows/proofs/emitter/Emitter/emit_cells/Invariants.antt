-- The triples of the cells passed so far were put.
use Rattle.std.specs.Prelude.{Ok}
use Rattle.csvw_triples_rows.specs.Puts.{Puts}
use Rattle.csvw_triples_rows.proofs.Runs.{cells_so_far}
use Rattle.csvw_triples_rows.proofs.emitter.Emitter.emit_cells.Given as goal

abbrev pub invariant-loop-i : goal.invariant-loop-i
invariant-loop-i g l =
    let s = g.S.TripleSink in
    Puts s.gains s.cuts s.is_open s.failed l.initial.sink (cells_so_far l.place.table l.place.row l.columns l.cells l.i) l.sink (Ok tt)
