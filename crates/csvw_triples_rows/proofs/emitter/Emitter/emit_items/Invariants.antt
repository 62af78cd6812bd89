-- The triples of the items passed so far were put.
use Rattle.std.proofs.Common.{map, take}
use Rattle.std.specs.Prelude.{Ok}
use Rattle.csvw_triples_rows.specs.Puts.{Puts}
use Rattle.csvw_triples_rows.specs.Stems.{literal_triple}
use Rattle.csvw_triples_rows.proofs.emitter.Emitter.emit_items.Given as goal

abbrev pub invariant-loop-i : goal.invariant-loop-i
invariant-loop-i g l =
    let s = g.S.TripleSink in
    Puts s.gains s.cuts s.is_open s.failed l.initial.sink (map (literal_triple l.stem l.column) (take l.i l.items)) l.sink (Ok tt)
