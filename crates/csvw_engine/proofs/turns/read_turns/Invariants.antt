-- Pieces of the tables were read in turn so far, and those that are open were not ended.
use Rattle.std.proofs.Common.{◌≡◌, ◌-◌, [], length}
use Rattle.csvw_session.specs.Sessions.{Stands}
use Rattle.csvw_engine.specs.Reading.{IsSame}
use Rattle.csvw_engine.specs.TurnsReading.{ReadSome}
use Rattle.csvw_engine.proofs.turns.read_turns.Given as goal

abbrev pub invariant-loop-reads : goal.invariant-loop-reads
invariant-loop-reads g l = record {
  same : IsSame l.initial.session l.session;
  room : length l.piece ≡ length l.initial.piece;
  lengths : length l.readers ≡ length l.initial.readers;
  flags : length l.going ≡ length l.initial.going;
  read : (start : _) → Stands g.S.TripleSink.gains g.S.TripleSink.is_open g.S.TripleSink.failed start [] l.initial.session
      → length l.initial.readers ≡ length l.initial.session.plan.tables
      → ReadSome g.S.TripleSink.gains g.S.TripleSink.is_open g.S.TripleSink.failed g.R.Read.remaining (length l.initial.piece) start l.going l.from
      l.initial.readers l.readers l.session l.reads;
}

abbrev pub decreases-loop-reads : goal.decreases-loop-reads
decreases-loop-reads g l = 1_099_511_627_776 - l.reads
