-- The bytes so far, and what the session and the reader are after them.
use Rattle.std.proofs.Common.{◌≡◌, ◌-◌, ℕ, List, false, length}
use Rattle.csvw_streams.specs.Counted.{failures_of}
use Rattle.csvw_session.specs.Events.{Event}
use Rattle.csvw_session.specs.Sessions.{Stands}
use Rattle.csvw_engine.specs.ReadOrder.{AreReadIn, AreTableByTable}
use Rattle.csvw_engine.specs.Reading.{Gave, IsSame}
use Rattle.csvw_engine.specs.TableReading.{IsNext, Took}
use Rattle.csvw_engine.proofs.reading.read_table.Given as goal

abbrev pub invariant-loop-reads : goal.invariant-loop-reads
invariant-loop-reads g l = record {
  same : IsSame l.initial.session l.session;
  room : length l.piece ≡ length l.initial.piece;
  steady : failures_of l.reader ≡ failures_of l.initial.reader;
  bytes : List ℕ;
  gave : Gave g.R.Read.remaining l.initial.reader l.reader bytes false;
  took : (start : _) (many limit : ℕ) (events : List Event)
      → Stands g.S.TripleSink.gains g.S.TripleSink.is_open g.S.TripleSink.failed start events l.initial.session
      → IsNext l.initial.session l.initial.piece many limit events l.initial.t
      → length events ≡ l.initial.reads
      → Took g.S.TripleSink.gains g.S.TripleSink.is_open g.S.TripleSink.failed start (AreReadIn AreTableByTable many limit) events l.initial.t bytes false
      l.session l.reads;
}

abbrev pub decreases-loop-reads : goal.decreases-loop-reads
decreases-loop-reads g l = 1_099_511_627_776 - l.reads
