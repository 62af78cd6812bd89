-- The opening was put, or a front of it.
use Rattle.csvw_session.proofs.Starting.{refused_early, refused_by}
use Rattle.csvw_session.proofs.session.open_tables.Goals as goal

pub returns-in_default-clause-refused : goal.returns-in_default-clause-refused
returns-in_default-clause-refused g c =
    let s = g.S.TripleSink in
    refused_early s.gains s.cuts s.is_open s.failed c.args.plan.now c.args.mode c.args.sink.now (g.met.S.TripleSink.stays c.args.sink.now)

pub returns-in-Err-clause-refused : goal.returns-in-Err-clause-refused
returns-in-Err-clause-refused g c =
    let s = g.S.TripleSink in
    rw c.of_fault.ensures (refused_by s.gains s.cuts s.is_open s.failed c.args.plan.now c.args.mode c.args.sink.now c.emit_opening.new.sink c.in-Err.fault
    c.in-Err.ensures.err c.in-Err.ensures.sink)
