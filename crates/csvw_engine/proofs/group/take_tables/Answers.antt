-- The tables were read to their ends, or stop.
use Rattle.std.proofs.lemmas.Result.{err_from_is_err_and}
use Rattle.csvw_engine.specs.Rooms.{IsOrder, order_in}
use Rattle.csvw_engine.proofs.Taking.{finished, stops}
use Rattle.csvw_engine.proofs.group.take_tables.Goals as goal

pub returns-in_err-read_all : goal.returns-in_err-read_all
returns-in_err-read_all g c =
    let s = g.S.TripleSink in
    let p = err_from_is_err_and c.from_residual.result c.from_residual.ensures.1 in
    let start = c.args.session.now.sink in
    λ sink h many.
    rw (p.1, p.2)
    (stops s.gains s.cuts s.is_open s.failed g.R.Read.remaining (IsOrder (order_in c.args.room.now.going))
    g.met.S.TripleSink.goes_on sink start h.ready c.args.readers.now c.read_all.new.readers
    c.args.session.now c.read_all.new.session
    h.opened (c.sessions_give_all.ensures sink start)
    (λ events event old new t reason. c.stopped_sessions_give_parts.ensures sink start events event old new t reason)
    (c.taken_events_are_tables.ensures start)
    c.in_err-read_all.field-0.0 (c.in_err-read_all.ensures.reads start h.stands many))

pub returns : goal.returns
returns g c =
    let s = g.S.TripleSink in
    let start = c.args.session.now.sink in
    λ sink h many.
    finished s.gains s.cuts s.is_open s.failed g.R.Read.remaining (IsOrder (order_in c.args.room.now.going))
    g.met.S.TripleSink.goes_on sink start h.ready c.args.readers.now c.read_all.new.readers
    c.args.session.now c.read_all.new.session c.finish.new.self
    (c.in_ok-read_all.ensures.reads start h.stands many) many h.opened
    (c.sessions_annotate.ensures sink start) c.finish.result c.finish.ensures.finishes
