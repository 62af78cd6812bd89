-- The names of the columns passed so far, then those of the columns left.
use Rattle.std.proofs.Common.{◌≡◌, ◌++◌, drop}
use Rattle.csvw_description.specs.Name.{numbered_names}
use Rattle.csvw_columns.proofs.checks.numbered_names.Given as goal

abbrev pub invariant-loop-i : goal.invariant-loop-i
invariant-loop-i l = l.names.items ++ numbered_names l.i (drop l.i l.columns) ≡ numbered_names 0 l.columns
