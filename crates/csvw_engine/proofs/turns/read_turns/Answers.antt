-- One more piece of a table, and the case that no table is open.
use Rattle.std.proofs.Common.{◌≡◌, ◌<◌, ◌+◌, sym, ap, ◌∙◌, refl, arith, inr, Some, get_or, length, rules}
use Rattle.std.specs.Prelude.{slice_get}
use Rattle.std.proofs.lemmas.Option.{slice_get-get_or}
use Rattle.std.proofs.lemmas.Result.{err_from_is_err_and}
use Rattle.std.proofs.Math.ListN.{length-set}
use Rattle.csvw_engine.specs.ReadOrder.{AreInTurn}
use Rattle.csvw_engine.proofs.NextTable.{ends_early}
use Rattle.csvw_engine.proofs.Turning.{none_read, all_ended, is_open_here, gave_here, next_within, steady_here, read_on}
use Rattle.csvw_engine.proofs.turns.read_turns.Goals as goal

pub loop-reads-init : goal.loop-reads-init
loop-reads-init g c =
    let s = g.S.TripleSink in record {
      same = (refl, refl);
      room = refl;
      lengths = refl;
      flags = refl;
      read = λ start h many.
          none_read s.gains s.cuts s.is_open s.failed g.R.Read.remaining (length c.args.piece.now) start c.args.going.now
          c.args.readers.now c.args.session.now c.requires.all_open h;
    }

pub returns-in_default-clause-reads : goal.returns-in_default-clause-reads
returns-in_default-clause-reads g c =
    let i = c.loop-reads.invariant in
    let s = g.S.TripleSink in
    λ start h many.
    let k = i.read start h many in record {
      events = k.events;
      read = k.read;
      same = i.same;
      stands = k.stands;
      gave = k.gave;
      steady = k.steady;
      ended = all_ended s.gains s.cuts s.is_open s.failed g.R.Read.remaining (length c.args.piece.now) start c.loop-reads.going c.loop-reads.from
          c.args.readers.now c.loop-reads.readers c.loop-reads.session c.loop-reads.reads k
          (i.flags ∙ c.requires.many) c.in_default.ensures;
    }

pub overflow_cast-i : goal.overflow_cast-i
overflow_cast-i g c =
    let i = c.loop-reads.invariant in
    let inside = next_within c.loop-reads.going c.loop-reads.from c.in-Some.i c.in-Some.ensures in
    let flags = i.flags in
    let many = c.requires.many in
    let few = c.requires.few in
    omega (arith, inside, flags, many, few)

pub overflow_add-i : goal.overflow_add-i
overflow_add-i g c =
    let i = c.loop-reads.invariant in
    let inside = next_within c.loop-reads.going c.loop-reads.from c.in-Some.i c.in-Some.ensures in
    let flags = i.flags in
    let many = c.requires.many in
    let few = c.requires.few in
    omega (arith, inside, flags, many, few)

pub bounds-readers-i : goal.bounds-readers-i
bounds-readers-i g c =
    let i = c.loop-reads.invariant in
    let inside = next_within c.loop-reads.going c.loop-reads.from c.in-Some.i c.in-Some.ensures in
    let flags = i.flags in
    let many = c.requires.many in
    let lengths = i.lengths in
    omega (arith, inside, flags, many, lengths)

pub offset_bounds-readers-i : goal.offset_bounds-readers-i
offset_bounds-readers-i g c = let below : c.in-Some.i < length c.loop-reads.readers = bounds-readers-i g c in search rules fits 6000

pub bounds-going-i : goal.bounds-going-i
bounds-going-i g c = next_within c.loop-reads.going c.loop-reads.from c.in-Some.i c.in-Some.ensures

pub overflow_add-from : goal.overflow_add-from
overflow_add-from g c =
    let i = c.loop-reads.invariant in
    let inside = next_within c.loop-reads.going c.loop-reads.from c.in-Some.i c.in-Some.ensures in
    let flags = i.flags in
    let many = c.requires.many in
    let few = c.requires.few in
    omega (arith, inside, flags, many, few)

pub loop-reads-preserved : goal.loop-reads-preserved
loop-reads-preserved g c =
    let i = c.loop-reads.invariant in
    let s = g.S.TripleSink in
    let n = c.in-Some.i in
    let t = c.in_ok-goes_on.ensures in
    let inside : n < length c.loop-reads.going = next_within c.loop-reads.going c.loop-reads.from n c.in-Some.ensures in
    let flags = i.flags in
    let flagged = c.requires.many in
    let lengths = i.lengths in
    let limit = length c.args.piece.now in
    let test = c.loop-reads-test.true in
    let size = flags ∙ flagged in
    let below : n < length c.loop-reads.readers = omega (arith, inside, flags, flagged, lengths) in
    let first = get_or c.args.readers.now n c.index-readers-i.result in
    let was : slice_get c.args.readers.now n ≡ Some first = slice_get-get_or c.args.readers.now n c.index-readers-i.result (omega (arith, below, lengths)) in
    let r = get_or c.loop-reads.readers n c.index-readers-i.result in
    let is : slice_get c.loop-reads.readers n ≡ Some r = slice_get-get_or c.loop-reads.readers n c.index-readers-i.result below in
    record {
      same = (t.same.0 ∙ i.same.0, t.same.1 ∙ i.same.1);
      room = t.room ∙ i.room;
      lengths = length-set c.loop-reads.readers n c.read_piece.new.reader ∙ i.lengths;
      flags = length-set c.loop-reads.going n c.in_ok-goes_on.goes_on ∙ i.flags;
      read = λ start h many.
          let k = i.read start h many in
          let tables : length c.loop-reads.session.plan.tables ≡ length c.args.readers.now = ap (λ p. length p.tables) i.same.0 ∙ sym many in
          read_on s.gains s.cuts s.is_open s.failed g.R.Read.remaining limit start c.loop-reads.going c.loop-reads.from c.args.readers.now c.loop-reads.readers
          c.loop-reads.session c.loop-reads.reads k n first c.read_piece.new.reader c.read_piece.new.session below inside was c.in-Some.ensures
          c.in_ok-goes_on.goes_on
          (t.reads start (length c.args.readers.now) limit k.events first k.stands
          (is_open_here s.gains s.cuts s.is_open s.failed g.R.Read.remaining limit start c.loop-reads.going c.loop-reads.from c.args.readers.now
          c.loop-reads.readers c.loop-reads.session c.loop-reads.reads k n first c.read_piece.new.reader c.read_piece.new.session below inside was
          c.texts_grow.ensures c.loop-reads.piece tables i.room size (omega (arith, test)) c.in-Some.ensures)
          (gave_here s.gains s.cuts s.is_open s.failed g.R.Read.remaining limit start c.loop-reads.going c.loop-reads.from c.args.readers.now
          c.loop-reads.readers c.loop-reads.session c.loop-reads.reads k n first c.read_piece.new.reader c.read_piece.new.session below inside was
          r is c.in-Some.ensures)
          (steady_here s.gains s.cuts s.is_open s.failed g.R.Read.remaining limit start c.loop-reads.going c.loop-reads.from c.args.readers.now
          c.loop-reads.readers c.loop-reads.session c.loop-reads.reads k n first c.read_piece.new.reader c.read_piece.new.session below inside was
          r is));
    }

pub returns-in_err-goes_on-clause-reads : goal.returns-in_err-goes_on-clause-reads
returns-in_err-goes_on-clause-reads g c =
    let i = c.loop-reads.invariant in
    let s = g.S.TripleSink in
    let n = c.in-Some.i in
    let t = c.in_err-goes_on.ensures in
    let p = err_from_is_err_and c.from_residual.result c.from_residual.ensures.1 in
    let inside : n < length c.loop-reads.going = next_within c.loop-reads.going c.loop-reads.from n c.in-Some.ensures in
    let flags = i.flags in
    let flagged = c.requires.many in
    let lengths = i.lengths in
    let limit = length c.args.piece.now in
    let test = c.loop-reads-test.true in
    let size = flags ∙ flagged in
    let below : n < length c.loop-reads.readers = omega (arith, inside, flags, flagged, lengths) in
    let first = get_or c.args.readers.now n c.index-readers-i.result in
    let was : slice_get c.args.readers.now n ≡ Some first = slice_get-get_or c.args.readers.now n c.index-readers-i.result (omega (arith, below, lengths)) in
    let r = get_or c.loop-reads.readers n c.index-readers-i.result in
    let is : slice_get c.loop-reads.readers n ≡ Some r = slice_get-get_or c.loop-reads.readers n c.index-readers-i.result below in
    λ start h many.
    let k = i.read start h many in
    let tables : length c.loop-reads.session.plan.tables ≡ length c.args.readers.now = ap (λ p. length p.tables) i.same.0 ∙ sym many in
    rw (p.1, p.2)
    (ends_early s.gains s.cuts s.is_open s.failed g.R.Read.remaining AreInTurn limit start n c.args.readers.now c.loop-reads.readers c.loop-reads.session
    k.events k.gave k.steady first c.read_piece.new.reader c.read_piece.new.session below was
    c.args.session.now i.same (t.same.0 ∙ i.same.0, t.same.1 ∙ i.same.1) c.in_err-goes_on.field-0.0 (length k.events + 1)
    (t.reads start (length c.args.readers.now) limit k.events first k.stands
    (is_open_here s.gains s.cuts s.is_open s.failed g.R.Read.remaining limit start c.loop-reads.going c.loop-reads.from c.args.readers.now
    c.loop-reads.readers c.loop-reads.session c.loop-reads.reads k n first c.read_piece.new.reader c.read_piece.new.session below inside was
    c.texts_grow.ensures c.loop-reads.piece tables i.room size (omega (arith, test)) c.in-Some.ensures)
    (gave_here s.gains s.cuts s.is_open s.failed g.R.Read.remaining limit start c.loop-reads.going c.loop-reads.from c.args.readers.now
    c.loop-reads.readers c.loop-reads.session c.loop-reads.reads k n first c.read_piece.new.reader c.read_piece.new.session below inside was
    r is c.in-Some.ensures)
    (steady_here s.gains s.cuts s.is_open s.failed g.R.Read.remaining limit start c.loop-reads.going c.loop-reads.from c.args.readers.now
    c.loop-reads.readers c.loop-reads.session c.loop-reads.reads k n first c.read_piece.new.reader c.read_piece.new.session below inside was
    r is)))

pub returns-clause-reads : goal.returns-clause-reads
returns-clause-reads g c =
    let i = c.loop-reads.invariant in
    let past = c.loop-reads-test.false in
    λ start h many.
    let k = i.read start h many in record {
      events = k.events;
      read = k.read;
      same = i.same;
      stands = k.stands;
      gave = k.gave;
      blame = inr ((let few = k.read.reads.few in let made = k.many in omega (arith, past, few, made)), k.steady);
    }
