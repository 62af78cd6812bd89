-- A piece more, and the rows that it completes.
use Rattle.std.proofs.Common.{◌++◌, false}
use Rattle.csvw_engine_core.specs.Tables.{max_rows, outlets}
use Rattle.csvw_engine_core.proofs.Moving.{holds_moved, outcome_moved, unfed}
use Rattle.csvw_engine_core.proofs.giving.feed_table.Goals as goal

pub returns-in-Ok-clause-feeds : goal.returns-in-Ok-clause-feeds
returns-in-Ok-clause-feeds g c = λ mode bytes given rows h.
    let s = g.S.TripleSink in
    outcome_moved s.gains s.cuts s.is_open s.failed c.args.plan.now mode (bytes ++ c.args.piece.now) false given rows c.args.table.now c.drain.new.table
    c.feed.new.self (outlets c.args.sink.now c.args.keys.now) (outlets c.drain.new.sink c.drain.new.keys) c.drain.result
    (c.drain.ensures.drains mode (bytes ++ c.args.piece.now) false given rows
    (holds_moved c.args.plan.now mode c.args.table.now c.feed.new.self bytes (bytes ++ c.args.piece.now) false false given rows
    (c.in-Ok.ensures.feeds c.args.plan.now.dialect max_rows bytes given) h))

pub returns-in-Err-clause-feeds : goal.returns-in-Err-clause-feeds
returns-in-Err-clause-feeds g c = λ mode bytes given rows h.
    let s = g.S.TripleSink in
    rw c.of_row_stop.ensures
    (unfed s.gains s.cuts s.is_open s.failed g.met.S.TripleSink.stays c.given_first_later.ensures c.args.plan.now mode c.args.table.now
    (record {
      alloc = c.args.table.now.alloc;
      number = c.args.table.now.number;
      mode = c.args.table.now.mode;
      rows = c.feed.new.self;
      head = c.args.table.now.head;
      faults = c.args.table.now.faults;
      room = c.args.table.now.room;
    }) bytes c.args.piece.now given rows
    (outlets c.args.sink.now c.args.keys.now) c.in-Err.stop c.row.result
    c.in-Err.ensures.feeds h)
