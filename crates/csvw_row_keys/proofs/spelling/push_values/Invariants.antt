use Rattle.std.proofs.Common.{◌≡◌, ◌++◌, flat_map, take}
use Rattle.csvw_row_keys.specs.Spelling.{value_spelling}
use Rattle.csvw_row_keys.proofs.spelling.push_values.Given as goal

abbrev pub invariant-loop-value : goal.invariant-loop-value
invariant-loop-value l = l.text.items ≡ l.initial.text.items ++ flat_map value_spelling (take l.value-index l.values)
