-- The columns so far, and then those that are left.
use Rattle.std.proofs.Common.{◌≡◌, ◌++◌, drop}
use Rattle.csvw_meta.specs.Schema.{with_row_titles}
use Rattle.csvw_meta.proofs.schema.each_titled.Given as goal

abbrev pub invariant-loop-i : goal.invariant-loop-i
invariant-loop-i l = l.titled.items ++ with_row_titles l.names l.i (drop l.i l.columns) ≡ with_row_titles l.names 0 l.columns
