use Rattle.std.proofs.Common.{◌≡◌, take}
use Rattle.csvw_keys.specs.Key.{key_of}
use Rattle.csvw_keys.proofs.key.key_of.Given as goal

abbrev pub invariant-loop-column : goal.invariant-loop-column
invariant-loop-column l = l.cells.items ≡ key_of (take l.column-index l.columns) l.row
