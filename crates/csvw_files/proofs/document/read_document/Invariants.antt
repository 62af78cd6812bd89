-- The bytes so far were read, none too many, and no read failed.
use Rattle.std.proofs.Common.{◌≡◌, ◌≤◌, ◌-◌, length}
use Rattle.std.specs.Io.KnownBytes.{Consumes}
use Rattle.csvw_streams.specs.Counted.{inner_of, failures_of}
use Rattle.csvw_files.proofs.document.read_document.Given as goal

abbrev pub invariant-loop-room : goal.invariant-loop-room
invariant-loop-room g l = record {
  room : length l.room ≡ 65_536;
  few : length l.bytes.items ≤ 1_048_577;
  consumed : Consumes (g.R.Read.remaining (inner_of l.initial.reader)) (g.R.Read.remaining (inner_of l.reader)) l.bytes.items;
  steady : failures_of l.reader ≡ failures_of l.initial.reader;
}

abbrev pub decreases-loop-room : goal.decreases-loop-room
decreases-loop-room g l = 1_048_577 - length l.bytes.items
