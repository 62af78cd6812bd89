-- The name is none of those passed so far.
use Rattle.std.proofs.Common.{◌≡◌, ◌+◌, drop}
use Rattle.csvw_annotate.specs.Bindings.{column_binding}
use Rattle.csvw_annotate.proofs.cell_names.column_binding.Given as goal

abbrev pub invariant-loop-i : goal.invariant-loop-i
invariant-loop-i l = column_binding (l.i + 2) (drop l.i l.columns) l.name ≡ column_binding 2 l.columns l.name
