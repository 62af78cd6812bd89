-- A read that gave a piece, the end of the reader, or the stop of an event.
use Rattle.std.proofs.Common.{◌≡◌, ◌<◌, ◌≤◌, ◌+◌, [], ◌++◌, refl, ap, ◌∙◌, arith, inl, inr, length, rules, take}
use Rattle.std.proofs.lemmas.Result.{err_from_is_err_and}
use Rattle.csvw_streams.specs.Count.{one_more}
use Rattle.csvw_session.specs.Events.{Feed, End}
use Rattle.csvw_engine.specs.ReadOrder.{AreReadIn, AreTableByTable}
use Rattle.csvw_engine.proofs.Growing.{end_sized, piece_sized}
use Rattle.csvw_engine.proofs.Readers.{gave_end, gave_kept, gave_none, gave_piece}
use Rattle.csvw_engine.proofs.Tables.{took_none, took_piece, ends, next_fits, unfed}
use Rattle.csvw_engine.proofs.reading.read_table.Goals as goal

pub loop-reads-init : goal.loop-reads-init
loop-reads-init g c =
    let s = g.S.TripleSink in record {
      same = (refl, refl);
      room = refl;
      steady = refl;
      bytes = [];
      gave = gave_none g.R.Read.remaining c.args.reader.now;
      took = λ start many limit events h next made. took_none s.gains s.cuts s.is_open s.failed c.texts_grow.ensures start
          (AreReadIn AreTableByTable many limit)
          events c.args.t c.args.session.now c.args.reads.now h next.read next.text next.not_ended made;
    }

pub loop-reads-preserved : goal.loop-reads-preserved
loop-reads-preserved g c =
    let i = c.loop-reads.invariant in
    let s = g.S.TripleSink in
    let n = c.in-Ok.n in
    let buf = c.read.new.buf in
    let some : 0 < n = (let test = c.if-n-eq0.false in omega (arith, test)) in
    let within : n ≤ length buf = c.in-Ok.ensures.bound.0 in
    let same_room : length buf ≡ length c.args.piece.now = search rules in
    record {
      same = (c.in_ok-feed.ensures.same.0 ∙ i.same.0, c.in_ok-feed.ensures.same.1 ∙ i.same.1);
      room = search rules;
      steady = c.in-Ok.ensures.count ∙ i.steady;
      bytes = i.bytes ++ take n buf;
      gave = gave_piece g.R.Read.remaining c.args.reader.now c.loop-reads.reader c.read.new.self i.bytes i.gave c.read.result n buf c.in-Ok.is some
          c.in-Ok.ensures.bytes.0 c.read.ensures.ends;
      took = λ start many limit events h next made.
          let k = i.took start many limit events h next made in
          took_piece s.gains s.cuts s.is_open s.failed c.texts_grow.ensures start (AreReadIn AreTableByTable many limit) events c.args.t c.loop-reads.session
          c.feed.new.self i.bytes (take n buf) c.loop-reads.reads c.in_ok-feed.field-0 k
          (next_fits c.args.session.now c.args.piece.now many limit events c.args.t c.texts_grow.ensures next k.later k.fit k.goes k.ended_is
          (let test = c.loop-reads-test.true in let length_is = k.many in omega (arith, test, length_is)) (Feed c.args.t (take n buf)) refl
          (piece_sized limit c.args.t n buf some within (same_room ∙ next.room))) c.in_ok-feed.ensures.takes;
    }

pub returns-then-n-eq0-clause-reads : goal.returns-then-n-eq0-clause-reads
returns-then-n-eq0-clause-reads g c =
    let i = c.loop-reads.invariant in
    let s = g.S.TripleSink in
    let same_room : length c.read.new.buf ≡ length c.args.piece.now = search rules in
    let room : 0 < length c.read.new.buf = (let some = c.requires in omega (arith, same_room, some)) in
    λ start many limit events h next made.
    let k = i.took start many limit events h next made in
    ends s.gains s.cuts s.is_open s.failed c.texts_grow.ensures start (AreReadIn AreTableByTable many limit) events c.args.t g.R.Read.remaining
    c.args.reader.now
    c.read.new.self c.args.session.now c.loop-reads.session c.end.new.self i.bytes c.loop-reads.reads k i.same next.some
    (let within = next.within in let tables = next.tables in omega (arith, within, tables))
    (next_fits c.args.session.now c.args.piece.now many limit events c.args.t c.texts_grow.ensures next k.later k.fit k.goes k.ended_is
    (let test = c.loop-reads-test.true in let length_is = k.many in omega (arith, test, length_is)) (End c.args.t) refl (end_sized limit c.args.t))
    (gave_end g.R.Read.remaining c.args.reader.now c.loop-reads.reader c.read.new.self i.bytes i.gave c.read.result c.in-Ok.n c.read.new.buf c.in-Ok.is
    c.if-n-eq0.true room c.in-Ok.ensures.bytes.0 c.in-Ok.ensures.bytes.1 c.read.ensures.ends)
    (c.in-Ok.ensures.count ∙ i.steady) c.end.result c.end.ensures.takes

pub returns-in_err-feed-clause-reads : goal.returns-in_err-feed-clause-reads
returns-in_err-feed-clause-reads g c =
    let i = c.loop-reads.invariant in
    let s = g.S.TripleSink in
    let n = c.in-Ok.n in
    let buf = c.read.new.buf in
    let some : 0 < n = (let test = c.if-n-eq0.false in omega (arith, test)) in
    let within : n ≤ length buf = c.in-Ok.ensures.bound.0 in
    let same_room : length buf ≡ length c.args.piece.now = search rules in
    let p = err_from_is_err_and c.from_residual.result c.from_residual.ensures.1 in
    λ start many limit events h next made.
    let k = i.took start many limit events h next made in
    rw (p.1, p.2)
    (unfed s.gains s.cuts s.is_open s.failed c.texts_grow.ensures start (AreReadIn AreTableByTable many limit) events c.args.t g.R.Read.remaining
    c.args.reader.now c.read.new.self c.args.session.now c.loop-reads.session c.feed.new.self i.bytes c.loop-reads.reads k i.same next.some
    (let most = next.within in let tables = next.tables in omega (arith, most, tables)) (take n buf)
    (next_fits c.args.session.now c.args.piece.now many limit events c.args.t c.texts_grow.ensures next k.later k.fit k.goes k.ended_is
    (let test = c.loop-reads-test.true in let length_is = k.many in omega (arith, test, length_is)) (Feed c.args.t (take n buf)) refl
    (piece_sized limit c.args.t n buf some within (same_room ∙ next.room)))
    (gave_piece g.R.Read.remaining c.args.reader.now c.loop-reads.reader c.read.new.self i.bytes i.gave c.read.result n buf c.in-Ok.is some
    c.in-Ok.ensures.bytes.0 c.read.ensures.ends)
    (c.in-Ok.ensures.count ∙ i.steady) c.in_err-feed.field-0.0 (c.loop-reads.reads + 1) c.in_err-feed.ensures.takes)

pub returns-in_default-clause-reads : goal.returns-in_default-clause-reads
returns-in_default-clause-reads g c =
    let i = c.loop-reads.invariant in
    λ start many limit events h next made. record {
      bytes = i.bytes;
      reads = c.loop-reads.reads;
      took = i.took start many limit events h next made;
      gave = gave_kept g.R.Read.remaining c.args.reader.now c.loop-reads.reader c.read.new.self i.bytes i.gave c.in_default.ensures.bytes
          c.in_default.ensures.ends;
      blame = inl (c.in_default.ensures.count ∙ ap one_more i.steady);
    }

pub returns-clause-reads : goal.returns-clause-reads
returns-clause-reads g c =
    let i = c.loop-reads.invariant in
    let past = c.loop-reads-test.false in
    λ start many limit events h next made.
    let k = i.took start many limit events h next made in record {
      bytes = i.bytes;
      reads = c.loop-reads.reads;
      took = k;
      gave = i.gave;
      blame = inr ((let few = k.fit.reads.few in let length_is = k.many in omega (arith, past, few, length_is)), i.steady);
    }
