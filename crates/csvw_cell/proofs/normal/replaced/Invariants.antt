use Rattle.std.proofs.Common.{◌≡◌, List, ℕ, ◌++◌, string_bytes, encode_utf8_all}
use Rattle.csvw_text.specs.Collapse.{spaced}
use Rattle.csvw_cell.proofs.normal.replaced.Given as goal

abbrev pub invariant-loop-c : goal.invariant-loop-c
invariant-loop-c l = (tail : List ℕ) → string_bytes l.out ++ encode_utf8_all (spaced tail) ≡ encode_utf8_all (spaced (l.yielded ++ tail))
