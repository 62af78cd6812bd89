-- The end, the rows that it completes, and the header if the columns were not known.
use Rattle.std.proofs.Common.{true, false}
use Rattle.std.proofs.lemmas.Result.{err_from_is_err_and}
use Rattle.csvw_engine_core.specs.Tables.{max_rows, outlets}
use Rattle.csvw_engine_core.specs.declared.table.Table.{Table}
use Rattle.csvw_engine_core.proofs.Ending.{ends_wrong, end_err, ends}
use Rattle.csvw_engine_core.proofs.Moving.{holds_moved, end_moved}
use Rattle.csvw_engine_core.proofs.Own.{own_at_end, own_err}
use Rattle.csvw_engine_core.proofs.giving.end_table.Goals as goal

pub returns-in_err-drain-in-Ok : goal.returns-in_err-drain-in-Ok
returns-in_err-drain-in-Ok g c = record {
  own = let p = err_from_is_err_and c.from_residual.result c.from_residual.ensures.1 in
      own_err c.args.plan.now.number c.from_residual.result p.0 _ p.1 p.2 c.in_err-drain-in-Ok.ensures.own;
  ends = λ mode bytes given rows h.
      let s = g.S.TripleSink in
      let p = err_from_is_err_and c.from_residual.result c.from_residual.ensures.1 in
      let mid : Table = record {
        alloc = c.args.table.now.alloc;
        number = c.args.table.now.number;
        mode = c.args.table.now.mode;
        rows = c.end.new.self;
        head = c.args.table.now.head;
        faults = c.args.table.now.faults;
        room = c.args.table.now.room;
      } in
      end_moved s.gains s.cuts s.is_open s.failed c.args.plan.now mode bytes given rows c.args.table.now c.drain.new.table c.end.new.self
      (outlets c.args.sink.now c.args.keys.now) (outlets c.drain.new.sink c.drain.new.keys) c.from_residual.result
      (end_err s.gains s.cuts s.is_open s.failed g.met.S.TripleSink.stays g.met.S.TripleSink.goes_on c.args.plan.now mode bytes given rows mid
      (outlets c.args.sink.now c.args.keys.now) (outlets c.drain.new.sink c.drain.new.keys) c.drain.new.table
      c.from_residual.result p.0 _ p.1 p.2
      (ends_wrong s.gains s.cuts s.is_open s.failed g.met.S.TripleSink.stays g.met.S.TripleSink.goes_on c.args.plan.now mode bytes given rows mid
      (outlets c.args.sink.now c.args.keys.now) (outlets c.drain.new.sink c.drain.new.keys) c.drain.new.table _
      (c.in_err-drain-in-Ok.ensures.drains mode bytes true given rows
      (holds_moved c.args.plan.now mode c.args.table.now c.end.new.self bytes bytes false true given rows
      (c.in-Ok.ensures.closes c.args.plan.now.dialect max_rows bytes given) h))));
}

pub returns-in_ok-drain-in-Ok : goal.returns-in_ok-drain-in-Ok
returns-in_ok-drain-in-Ok g c = record {
  own = own_at_end c.args.plan.now c.drain.new.table c.settle.new.self c.settle.result c.settle.ensures;
  ends = λ mode bytes given rows h.
      let s = g.S.TripleSink in
      let mid : Table = record {
        alloc = c.args.table.now.alloc;
        number = c.args.table.now.number;
        mode = c.args.table.now.mode;
        rows = c.end.new.self;
        head = c.args.table.now.head;
        faults = c.args.table.now.faults;
        room = c.args.table.now.room;
      } in
      let k = c.in_ok-drain-in-Ok.ensures.drains mode bytes true given rows
      (holds_moved c.args.plan.now mode c.args.table.now c.end.new.self bytes bytes false true given rows
      (c.in-Ok.ensures.closes c.args.plan.now.dialect max_rows bytes given) h) in
      end_moved s.gains s.cuts s.is_open s.failed c.args.plan.now mode bytes given rows c.args.table.now c.settle.new.self c.end.new.self
      (outlets c.args.sink.now c.args.keys.now) (outlets c.drain.new.sink c.drain.new.keys) c.settle.result
      (ends s.gains s.cuts s.is_open s.failed g.met.S.TripleSink.stays g.met.S.TripleSink.goes_on c.args.plan.now mode bytes given rows mid
      (outlets c.args.sink.now c.args.keys.now) (outlets c.drain.new.sink c.drain.new.keys) c.drain.new.table k.0
      c.given_first.ensures k.1 c.settle.new.self c.settle.result c.settle.ensures);
}
