-- So many rows were read.
use Rattle.std.proofs.Common.{◌≡◌}
use Rattle.csvw_rows.specs.RowsState.{is_ended_of}
use Rattle.csvw_split.specs.Passing.{PassesMany}
use Rattle.csvw_split.proofs.file.pass.Given as goal

abbrev pub invariant-loop-count : goal.invariant-loop-count
invariant-loop-count l = record {
  ended : is_ended_of l.rows ≡ is_ended_of l.initial.rows;
  many : PassesMany l.initial.rows l.rows l.count;
}
