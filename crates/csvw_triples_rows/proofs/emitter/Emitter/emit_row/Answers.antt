-- What the sink took, by the fault.
use Rattle.csvw_triples_rows.proofs.Emitting.{front_of}
use Rattle.csvw_triples_rows.proofs.emitter.Emitter.emit_row.Goals as goal

pub returns-clause-err : goal.returns-clause-err
returns-clause-err g c =
    let s = g.S.TripleSink in
    front_of s.gains s.cuts s.is_open s.failed c.args.sink.now c.emit.new.sink _ c.emit.result c.emit.ensures.takes
