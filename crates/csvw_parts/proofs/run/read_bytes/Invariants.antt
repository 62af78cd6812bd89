-- The bytes so far, and the table, the sink and the records after them.
use Rattle.std.proofs.Common.{◌≡◌, ◌+◌, ℕ, List, false, length}
use Rattle.std.specs.Io.KnownBytes.{Consumes}
use Rattle.csvw_keys.specs.KeyRules.{rules_of}
use Rattle.csvw_streams.specs.Counted.{inner_of}
use Rattle.csvw_engine_core.specs.Tables.{is_ended}
use Rattle.csvw_parts.specs.Outlets.{kept, outs}
use Rattle.csvw_parts.specs.Reading.{GoesOnWith}
use Rattle.csvw_parts.proofs.run.read_bytes.Given as goal

abbrev pub invariant-loop-left : goal.invariant-loop-left
invariant-loop-left g l = record {
  plan : l.part.plan ≡ l.initial.part.plan;
  not_ended : is_ended l.part.table ≡ false;
  faults : l.state.faults ≡ l.initial.state.faults;
  text : List ℕ;
  many : length text + l.left ≡ l.asked.piece.bytes;
  consumed : Consumes (g.R.Read.remaining (inner_of l.initial.reader)) (g.R.Read.remaining (inner_of l.reader)) text;
  goes_on : GoesOnWith (outs g.S.TripleSink.gains g.S.TripleSink.is_open g.S.TripleSink.failed g.W.Write.contents)
      (rules_of l.asked.request.plan.now) l.initial.part.plan.now l.initial.part.table l.part.table
      (kept l.initial.sink l.initial.state.book l.initial.state.records) (kept l.sink l.state.book l.state.records) text;
}

abbrev pub decreases-loop-left : goal.decreases-loop-left
decreases-loop-left g l = l.left
