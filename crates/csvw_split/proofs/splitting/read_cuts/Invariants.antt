-- So far the file was read as far as its reader gave it.
use Rattle.std.proofs.Common.{◌<◌, [], ℕ, List, length}
use Rattle.std.specs.Io.KnownBytes.{Consumes}
use Rattle.csvw_columns.specs.declared.plan.TablePlan.{TablePlan}
use Rattle.csvw_streams.specs.Counted.{inner_of}
use Rattle.csvw_split.specs.Cuts.{Cuts}
use Rattle.csvw_split.proofs.splitting.read_cuts.Given as goal

abbrev pub invariant-loop : goal.invariant-loop
invariant-loop g l = record {
  text : List ℕ;
  gave : Consumes (g.R.Read.remaining (inner_of l.initial.reader)) (g.R.Read.remaining (inner_of l.reader)) text;
  room : 0 < length l.room;
  cuts : (t : TablePlan) → Cuts l.initial.cuts t [] → Cuts l.cuts t text;
}
