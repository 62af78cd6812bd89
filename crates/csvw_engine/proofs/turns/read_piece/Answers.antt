-- A read that gave a piece, the end of the reader, or the stop of an event.
use Rattle.std.proofs.Common.{◌≡◌, ◌<◌, ◌≤◌, ◌+◌, ◌++◌, refl, ap, ◌∙◌, arith, rules, inl, length, take, Ok, Err}
use Rattle.std.proofs.lemmas.Result.{err_from_is_err_and}
use Rattle.csvw_streams.specs.Count.{one_more}
use Rattle.csvw_session.specs.Events.{Feed, End, text_of}
use Rattle.csvw_engine.specs.ReadOrder.{AreInTurn, AreReadIn}
use Rattle.csvw_engine.proofs.Growing.{end_sized, piece_sized}
use Rattle.csvw_engine.proofs.Readers.{gave_end, gave_kept, gave_piece}
use Rattle.csvw_engine.proofs.Tables.{took_so_far, took_piece, ends, turn_fits, unfed}
use Rattle.csvw_engine.proofs.turns.read_piece.Goals as goal

pub returns-in_default-clause-reads : goal.returns-in_default-clause-reads
returns-in_default-clause-reads g c =
    let s = g.S.TripleSink in
    λ start many limit events first h going gave steady. record {
      bytes = text_of events c.args.t;
      reads = length events;
      took = took_so_far s.gains s.cuts s.is_open s.failed c.texts_grow.ensures start (AreReadIn AreInTurn many limit) events c.args.t c.args.session.now
          (length events) h going.read going.not_ended refl;
      gave = gave_kept g.R.Read.remaining first c.args.reader.now c.read.new.self (text_of events c.args.t) gave c.in_default.ensures.bytes
          c.in_default.ensures.ends;
      blame = inl (c.in_default.ensures.count ∙ ap one_more steady);
    }

pub returns-then-n-eq0-clause-reads : goal.returns-then-n-eq0-clause-reads
returns-then-n-eq0-clause-reads g c =
    let s = g.S.TripleSink in
    let same_room : length c.read.new.buf ≡ length c.args.piece.now = search rules in
    let room : 0 < length c.read.new.buf = (let some = c.requires in omega (arith, same_room, some)) in
    λ start many limit events first h going gave steady.
    ends s.gains s.cuts s.is_open s.failed c.texts_grow.ensures start (AreReadIn AreInTurn many limit) events c.args.t g.R.Read.remaining first c.read.new.self
    c.args.session.now c.args.session.now c.end.new.self (text_of events c.args.t) (length events)
    (took_so_far s.gains s.cuts s.is_open s.failed c.texts_grow.ensures start (AreReadIn AreInTurn many limit) events c.args.t c.args.session.now
    (length events) h going.read going.not_ended refl)
    (refl, refl) going.some (let within = going.within in let tables = going.tables in omega (arith, within, tables))
    (turn_fits c.args.session.now c.args.piece.now many limit events c.args.t going (End c.args.t) refl (end_sized limit c.args.t))
    (gave_end g.R.Read.remaining first c.args.reader.now c.read.new.self (text_of events c.args.t) gave c.read.result c.in-Ok.n c.read.new.buf c.in-Ok.is
    c.if-n-eq0.true room c.in-Ok.ensures.bytes.0 c.in-Ok.ensures.bytes.1 c.read.ensures.ends)
    (c.in-Ok.ensures.count ∙ steady) (Ok c.in_ok-end.field-0) c.in_ok-end.ensures.takes

pub returns-in_err-end-clause-reads : goal.returns-in_err-end-clause-reads
returns-in_err-end-clause-reads g c =
    let s = g.S.TripleSink in
    let same_room : length c.read.new.buf ≡ length c.args.piece.now = search rules in
    let room : 0 < length c.read.new.buf = (let some = c.requires in omega (arith, same_room, some)) in
    let p = err_from_is_err_and c.from_residual.result c.from_residual.ensures.1 in
    λ start many limit events first h going gave steady.
    rw (p.1, p.2)
    (ends s.gains s.cuts s.is_open s.failed c.texts_grow.ensures start (AreReadIn AreInTurn many limit) events c.args.t g.R.Read.remaining first c.read.new.self
    c.args.session.now c.args.session.now c.end.new.self (text_of events c.args.t) (length events)
    (took_so_far s.gains s.cuts s.is_open s.failed c.texts_grow.ensures start (AreReadIn AreInTurn many limit) events c.args.t c.args.session.now
    (length events) h going.read going.not_ended refl)
    (refl, refl) going.some (let within = going.within in let tables = going.tables in omega (arith, within, tables))
    (turn_fits c.args.session.now c.args.piece.now many limit events c.args.t going (End c.args.t) refl (end_sized limit c.args.t))
    (gave_end g.R.Read.remaining first c.args.reader.now c.read.new.self (text_of events c.args.t) gave c.read.result c.in-Ok.n c.read.new.buf c.in-Ok.is
    c.if-n-eq0.true room c.in-Ok.ensures.bytes.0 c.in-Ok.ensures.bytes.1 c.read.ensures.ends)
    (c.in-Ok.ensures.count ∙ steady) (Err c.in_err-end.field-0.0) c.in_err-end.ensures.takes)

pub returns-in_err-feed-clause-reads : goal.returns-in_err-feed-clause-reads
returns-in_err-feed-clause-reads g c =
    let s = g.S.TripleSink in
    let n = c.in-Ok.n in
    let buf = c.read.new.buf in
    let some : 0 < n = (let test = c.if-n-eq0.false in omega (arith, test)) in
    let inside : n ≤ length buf = c.in-Ok.ensures.bound.0 in
    let same_room : length buf ≡ length c.args.piece.now = search rules in
    let p = err_from_is_err_and c.from_residual-in_err-feed.result c.from_residual-in_err-feed.ensures.1 in
    λ start many limit events first h going gave steady.
    rw (p.1, p.2)
    (unfed s.gains s.cuts s.is_open s.failed c.texts_grow.ensures start (AreReadIn AreInTurn many limit) events c.args.t g.R.Read.remaining first
    c.read.new.self c.args.session.now c.args.session.now c.feed.new.self (text_of events c.args.t) (length events)
    (took_so_far s.gains s.cuts s.is_open s.failed c.texts_grow.ensures start (AreReadIn AreInTurn many limit) events c.args.t c.args.session.now
    (length events) h going.read going.not_ended refl)
    (refl, refl) going.some (let within = going.within in let tables = going.tables in omega (arith, within, tables)) (take n buf)
    (turn_fits c.args.session.now c.args.piece.now many limit events c.args.t going (Feed c.args.t (take n buf)) refl
    (piece_sized limit c.args.t n buf some inside (same_room ∙ going.room)))
    (gave_piece g.R.Read.remaining first c.args.reader.now c.read.new.self (text_of events c.args.t) gave c.read.result n buf c.in-Ok.is some
    c.in-Ok.ensures.bytes.0 c.read.ensures.ends)
    (c.in-Ok.ensures.count ∙ steady) c.in_err-feed.field-0.0 (length events + 1) c.in_err-feed.ensures.takes)

pub returns-clause-reads : goal.returns-clause-reads
returns-clause-reads g c =
    let s = g.S.TripleSink in
    let n = c.in-Ok.n in
    let buf = c.read.new.buf in
    let some : 0 < n = (let test = c.if-n-eq0.false in omega (arith, test)) in
    let inside : n ≤ length buf = c.in-Ok.ensures.bound.0 in
    let same_room : length buf ≡ length c.args.piece.now = search rules in
    λ start many limit events first h going gave steady. record {
      bytes = text_of events c.args.t ++ take n buf;
      took = took_piece s.gains s.cuts s.is_open s.failed c.texts_grow.ensures start (AreReadIn AreInTurn many limit) events c.args.t c.args.session.now
          c.feed.new.self (text_of events c.args.t) (take n buf) (length events) c.in_ok-feed.field-0
          (took_so_far s.gains s.cuts s.is_open s.failed c.texts_grow.ensures start (AreReadIn AreInTurn many limit) events c.args.t c.args.session.now
          (length events) h going.read going.not_ended refl)
          (turn_fits c.args.session.now c.args.piece.now many limit events c.args.t going (Feed c.args.t (take n buf)) refl
          (piece_sized limit c.args.t n buf some inside (same_room ∙ going.room)))
          c.in_ok-feed.ensures.takes;
      gave = gave_piece g.R.Read.remaining first c.args.reader.now c.read.new.self (text_of events c.args.t) gave c.read.result n buf c.in-Ok.is some
          c.in-Ok.ensures.bytes.0 c.read.ensures.ends;
      steady = c.in-Ok.ensures.count ∙ steady;
    }
