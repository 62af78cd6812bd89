-- A table was read to its end, or stopped; all tables were read.
use Rattle.std.proofs.Common.{◌≡◌, ◌<◌, refl, sym, ap, ◌∙◌, arith, get_or, length}
use Rattle.std.proofs.lemmas.Option.{slice_get-get_or}
use Rattle.std.proofs.lemmas.Result.{err_from_is_err_and}
use Rattle.std.proofs.Math.ListN.{length-set}
use Rattle.csvw_engine.specs.ReadOrder.{AreTableByTable}
use Rattle.csvw_engine.proofs.NextTable.{first_read, is_next, read_next, ends_early}
use Rattle.csvw_engine.proofs.Readers.{set_other}
use Rattle.csvw_engine.proofs.reading.read_tables.Goals as goal

pub loop-i-init : goal.loop-i-init
loop-i-init g c =
    let s = g.S.TripleSink in record {
      same = (refl, refl);
      room = refl;
      lengths = refl;
      untouched = λ j r le e. e;
      read = λ start h many. first_read s.gains s.cuts s.is_open s.failed g.R.Read.remaining (length c.args.piece.now) start c.args.readers.now
          c.args.session.now h;
    }

pub loop-i-preserved : goal.loop-i-preserved
loop-i-preserved g c =
    let i = c.loop-i.invariant in
    let s = g.S.TripleSink in
    let n = c.loop-i.i in
    let limit = length c.args.piece.now in
    let t = c.in_ok-read_table.ensures in
    let below : c.loop-i.i < length c.loop-i.readers = (let test = c.loop-i-test.true in let lengths = i.lengths in omega (arith, test, lengths)) in
    let within : c.loop-i.i < length c.args.readers.now = (let test = c.loop-i-test.true in omega (arith, test)) in
    let r = get_or c.loop-i.readers n c.index-readers-i.result in
    let was = i.untouched n r (omega arith) (slice_get-get_or c.loop-i.readers n c.index-readers-i.result below) in
    record {
      same = (t.same.0 ∙ i.same.0, t.same.1 ∙ i.same.1);
      room = t.room ∙ i.room;
      lengths = length-set c.loop-i.readers n c.read_table.new.reader ∙ i.lengths;
      untouched = λ j r le e. i.untouched j r (omega (arith, le))
          (set_other c.loop-i.readers n j c.read_table.new.reader r (λ same. omega (arith, le, same)) e);
      read = λ start h many.
          let k = i.read start h many in
          let tables : length c.loop-i.session.plan.tables ≡ length c.args.readers.now = ap (λ p. length p.tables) i.same.0 ∙ sym many in
          read_next s.gains s.cuts s.is_open s.failed g.R.Read.remaining limit start n c.args.readers.now c.loop-i.readers c.loop-i.session c.loop-i.reads k r
          c.read_table.new.reader c.read_table.new.session below was
          c.read_table.new.reads (t.reads start (length c.args.readers.now) limit k.events k.stands (is_next s.gains s.cuts s.is_open s.failed
          g.R.Read.remaining
          limit start n c.args.readers.now c.loop-i.readers c.loop-i.session c.loop-i.reads k c.loop-i.piece tables i.room within) k.many);
    }

pub returns-in_err-read_table-clause-reads : goal.returns-in_err-read_table-clause-reads
returns-in_err-read_table-clause-reads g c =
    let i = c.loop-i.invariant in
    let s = g.S.TripleSink in
    let n = c.loop-i.i in
    let limit = length c.args.piece.now in
    let t = c.in_err-read_table.ensures in
    let p = err_from_is_err_and c.from_residual.result c.from_residual.ensures.1 in
    let below : c.loop-i.i < length c.loop-i.readers = (let test = c.loop-i-test.true in let lengths = i.lengths in omega (arith, test, lengths)) in
    let within : c.loop-i.i < length c.args.readers.now = (let test = c.loop-i-test.true in omega (arith, test)) in
    let r = get_or c.loop-i.readers n c.index-readers-i.result in
    let was = i.untouched n r (omega arith) (slice_get-get_or c.loop-i.readers n c.index-readers-i.result below) in
    λ start h many.
    let k = i.read start h many in
    let tables : length c.loop-i.session.plan.tables ≡ length c.args.readers.now = ap (λ p. length p.tables) i.same.0 ∙ sym many in
    rw (p.1, p.2)
    (ends_early s.gains s.cuts s.is_open s.failed g.R.Read.remaining AreTableByTable limit start n c.args.readers.now c.loop-i.readers c.loop-i.session k.events
    k.gave k.steady r c.read_table.new.reader c.read_table.new.session below was
    c.args.session.now i.same (t.same.0 ∙ i.same.0, t.same.1 ∙ i.same.1) c.in_err-read_table.field-0.0 c.read_table.new.reads
    (t.reads start (length c.args.readers.now) limit k.events k.stands (is_next s.gains s.cuts s.is_open s.failed g.R.Read.remaining limit start n
    c.args.readers.now c.loop-i.readers c.loop-i.session c.loop-i.reads k c.loop-i.piece tables i.room within) k.many))

pub returns-clause-reads : goal.returns-clause-reads
returns-clause-reads g c =
    let i = c.loop-i.invariant in
    λ start h many.
    let k = i.read start h many in record {
      events = k.events;
      read = k.read;
      same = i.same;
      stands = k.stands;
      gave = k.gave;
      steady = k.steady;
      ended = λ j lt. k.ended j (let test = c.loop-i-test.false in omega (arith, test, lt));
    }
