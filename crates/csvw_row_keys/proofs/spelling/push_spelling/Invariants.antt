use Rattle.std.proofs.Common.{◌≡◌, ◌++◌, flat_map, take}
use Rattle.csvw_row_keys.specs.Spelling.{cell_spelling}
use Rattle.csvw_row_keys.proofs.spelling.push_spelling.Given as goal

abbrev pub invariant-loop-cell : goal.invariant-loop-cell
invariant-loop-cell l = l.text.items ≡ l.initial.text.items ++ flat_map cell_spelling (take l.cell-index l.key)
