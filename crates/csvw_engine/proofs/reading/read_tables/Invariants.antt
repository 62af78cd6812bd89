-- The first tables were read, and the readers of the others were not.
use Rattle.std.proofs.Common.{◌≡◌, ◌≤◌, ℕ, [], length, Some}
use Rattle.std.specs.Prelude.{slice_get}
use Rattle.csvw_session.specs.Sessions.{Stands}
use Rattle.csvw_engine.specs.Reading.{IsSame}
use Rattle.csvw_engine.specs.TablesReading.{ReadFirst}
use Rattle.csvw_engine.proofs.reading.read_tables.Given as goal

abbrev pub invariant-loop-i : goal.invariant-loop-i
invariant-loop-i g l = record {
  same : IsSame l.initial.session l.session;
  room : length l.piece ≡ length l.initial.piece;
  lengths : length l.readers ≡ length l.initial.readers;
  untouched : (j : ℕ) (r : _) → l.i ≤ j → slice_get l.readers j ≡ Some r → slice_get l.initial.readers j ≡ Some r;
  read : (start : _) → Stands g.S.TripleSink.gains g.S.TripleSink.is_open g.S.TripleSink.failed start [] l.initial.session
      → length l.initial.readers ≡ length l.initial.session.plan.tables
      → ReadFirst g.S.TripleSink.gains g.S.TripleSink.is_open g.S.TripleSink.failed g.R.Read.remaining (length l.initial.piece) start l.i l.initial.readers
      l.readers l.session l.reads;
}
