-- The titles of the items passed so far were put.
use Rattle.std.proofs.Common.{map, drop}
use Rattle.csvw_triples_rows.specs.RowTitles.{title_triple}
use Rattle.csvw_triples_rows.proofs.Walking.{Walked}
use Rattle.csvw_triples_rows.proofs.emitter.Emitter.emit_each_title.Given as goal

abbrev pub invariant-loop-i : goal.invariant-loop-i
invariant-loop-i g l =
    let s = g.S.TripleSink in
    let f = title_triple l.place.table l.place.row l.column in
    Walked s.gains s.cuts s.is_open s.failed l.initial.sink (map f l.items) (map f (drop l.i l.items)) l.sink
