-- The bytes so far, and the table, the sink and the keys after them.
use Rattle.std.proofs.Common.{◌≡◌, ◌+◌, ℕ, List, false, length}
use Rattle.std.specs.Io.KnownBytes.{Consumes}
use Rattle.csvw_streams.specs.Counted.{inner_of, failures_of}
use Rattle.csvw_engine_core.specs.Tables.{is_ended, outlets}
use Rattle.csvw_parts.specs.Parts.{GoesOn}
use Rattle.csvw_parts.proofs.part.TablePart.read.Given as goal

abbrev pub invariant-loop-left : goal.invariant-loop-left
invariant-loop-left g l = record {
  plan : l.self.plan ≡ l.initial.self.plan;
  room : length l.room ≡ 65_536;
  text : List ℕ;
  many : length text + l.left ≡ l.initial.count;
  consumed : Consumes (g.R.Read.remaining (inner_of l.initial.reader)) (g.R.Read.remaining (inner_of l.reader)) text;
  steady : failures_of l.reader ≡ failures_of l.initial.reader;
  goes_on : GoesOn g.S.TripleSink.gains g.S.TripleSink.is_open g.S.TripleSink.failed l.initial.self.plan.now l.initial.self.table l.self.table (outlets l.initial.sink l.initial.keys) (outlets l.sink l.keys) text;
  not_ended : is_ended l.self.table ≡ false;
}

abbrev pub decreases-loop-left : goal.decreases-loop-left
decreases-loop-left g l = l.left
