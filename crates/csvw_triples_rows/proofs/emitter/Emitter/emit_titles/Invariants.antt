-- The titles of the cells passed so far were put.
use Rattle.csvw_triples_rows.specs.RowTitles.{titles_triples}
use Rattle.csvw_triples_rows.proofs.TitleWalks.{titles_from}
use Rattle.csvw_triples_rows.proofs.Walking.{Walked}
use Rattle.csvw_triples_rows.proofs.emitter.Emitter.emit_titles.Given as goal

abbrev pub invariant-loop-i : goal.invariant-loop-i
invariant-loop-i g l =
    let s = g.S.TripleSink in
    Walked s.gains s.cuts s.is_open s.failed l.initial.sink (titles_triples l.place.table l.place.row l.columns l.cells)
    (titles_from l.place.table l.place.row l.columns l.cells l.i) l.sink
