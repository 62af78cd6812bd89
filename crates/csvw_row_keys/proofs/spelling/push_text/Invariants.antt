use Rattle.std.proofs.Common.{◌≡◌, ◌++◌, flat_map, take}
use Rattle.csvw_row_keys.specs.Spelling.{byte_spelling}
use Rattle.csvw_row_keys.proofs.spelling.push_text.Given as goal

abbrev pub invariant-loop-byte : goal.invariant-loop-byte
invariant-loop-byte l = l.text.items ≡ l.initial.text.items ++ flat_map byte_spelling (take l.byte-index l.bytes)
