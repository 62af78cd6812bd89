-- The triples of the entries passed so far were put.
use Rattle.std.specs.Prelude.{Ok}
use Rattle.csvw_triples_rows.specs.Puts.{Puts}
use Rattle.csvw_triples_rows.specs.Stems.{entries_in}
use Rattle.csvw_triples_rows.proofs.Runs.{front_triples}
use Rattle.csvw_triples_rows.proofs.emitter.Emitter.emit_entries.Given as goal

abbrev pub invariant-loop-i : goal.invariant-loop-i
invariant-loop-i g l =
    let s = g.S.TripleSink in
    Puts s.gains s.cuts s.is_open s.failed l.initial.sink (front_triples (entries_in l.place) l.column 1 l.i l.items) l.sink (Ok tt)
