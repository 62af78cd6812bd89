-- A piece more, a read that gave none, and a piece at which the table stops.
use Rattle.std.proofs.Common.{◌∙◌, ◌<◌, ◌++◌, [], refl, arith, length, length-append, rules, take}
use Rattle.std.proofs.KnownBytes.{Consumes-nil, Consumes-trans}
use Rattle.std.proofs.lemmas.Result.{err_from_is_err_and}
use Rattle.csvw_streams.specs.Counted.{inner_of}
use Rattle.csvw_engine_core.specs.Tables.{outlets}
use Rattle.csvw_parts.proofs.Pieces.{no_piece, nothing_yet, piece_more, take_len}
use Rattle.csvw_parts.proofs.part.TablePart.read.Goals as goal

pub loop-left-init : goal.loop-left-init
loop-left-init g c =
    let s = g.S.TripleSink in
    record {
      plan = refl;
      room = search rules;
      text = [];
      many = omega arith;
      consumed = Consumes-nil (g.R.Read.remaining (inner_of c.args.reader.now));
      steady = refl;
      goes_on = nothing_yet s.gains s.cuts s.is_open s.failed g.met.S.TripleSink.stays g.met.S.TripleSink.goes_on c.args.self.now.plan.now
          c.args.self.now.table (outlets c.args.sink.now c.args.keys.now);
      not_ended = c.requires.not_ended;
    }

pub loop-left-preserved : goal.loop-left-preserved
loop-left-preserved g c =
    let s = g.S.TripleSink in
    let i = c.loop-left.invariant in
    let n = c.in_ok-n.n in
    let room = c.read_piece.new.room in
    let p = c.in_ok-n.ensures.piece in
    let k = take_len n room p.2 in
    record {
      plan = i.plan;
      room = c.in_ok-n.ensures.room ∙ i.room;
      text = i.text ++ take n room;
      many = (let m = i.many in let w = p.1 in omega (arith, m, w, k, length-append i.text (take n room)));
      consumed = Consumes-trans (g.R.Read.remaining (inner_of c.args.reader.now)) (g.R.Read.remaining (inner_of c.loop-left.reader))
          (g.R.Read.remaining (inner_of c.read_piece.new.reader)) i.text (take n room) i.consumed p.3;
      steady = p.4 ∙ i.steady;
      goes_on = piece_more s.gains s.cuts s.is_open s.failed g.met.S.TripleSink.stays g.met.S.TripleSink.goes_on c.args.self.now.plan.now
          c.args.self.now.table c.loop-left.self.table c.feed_table.new.table (outlets c.args.sink.now c.args.keys.now)
          (outlets c.loop-left.sink c.loop-left.keys) (outlets c.feed_table.new.sink c.feed_table.new.keys) i.text (take n room) i.goes_on
          (λ mode bytes given rows h. c.in_ok-feed_table.ensures.feeds mode bytes given rows h);
      not_ended = c.in_ok-feed_table.ensures.ended;
    }

pub returns-in_err-n-clause-reads : goal.returns-in_err-n-clause-reads
returns-in_err-n-clause-reads g c =
    let s = g.S.TripleSink in
    let i = c.loop-left.invariant in
    let p = err_from_is_err_and c.from_residual-in_err-n.result c.from_residual-in_err-n.ensures.1 in
    let few : length i.text < c.args.count = (let m = i.many in let t = c.loop-left-test.true in omega (arith, m, t)) in
    rw (p.1, p.2) (no_piece s.gains s.cuts s.is_open s.failed g.met.S.TripleSink.stays g.met.S.TripleSink.goes_on c.args.self.now.plan.now
    g.R.Read.remaining c.args.self.now.table c.loop-left.self.table c.args.reader.now c.loop-left.reader c.read_piece.new.reader
    (outlets c.args.sink.now c.args.keys.now) (outlets c.loop-left.sink c.loop-left.keys) c.args.count i.text few i.consumed i.steady i.goes_on
    i.not_ended c.read_piece.new.room c.loop-left.left c.in_err-n.field-0.0 c.in_err-n.ensures.piece)

pub returns-in_err-feed_table-clause-reads : goal.returns-in_err-feed_table-clause-reads
returns-in_err-feed_table-clause-reads g c =
    let i = c.loop-left.invariant in
    let n = c.in_ok-n.n in
    let room = c.read_piece.new.room in
    let q = c.in_ok-n.ensures.piece in
    let k = take_len n room q.2 in
    let p = err_from_is_err_and c.from_residual-in_err-feed_table.result c.from_residual-in_err-feed_table.ensures.1 in
    rw (p.1, p.2) (record {
      text = i.text;
      piece = take n room;
      within = (let m = i.many in let w = q.1 in omega (arith, m, w, k, length-append i.text (take n room)));
      consumed = Consumes-trans (g.R.Read.remaining (inner_of c.args.reader.now)) (g.R.Read.remaining (inner_of c.loop-left.reader))
          (g.R.Read.remaining (inner_of c.read_piece.new.reader)) i.text (take n room) i.consumed q.3;
      middle = c.loop-left.self.table;
      between = outlets c.loop-left.sink c.loop-left.keys;
      goes_on = i.goes_on;
      stops = λ mode bytes given rows h. c.in_err-feed_table.ensures.feeds mode bytes given rows h;
    })
