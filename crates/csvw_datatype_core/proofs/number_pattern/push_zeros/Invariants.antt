-- The text, with the zeros that are left, is the whole one.
use Rattle.std.proofs.Common.{◌≡◌, ◌++◌, string_bytes, encode_utf8_all}
use Rattle.csvw_datatype_core.specs.NumberPatterns.{zeros}
use Rattle.csvw_datatype_core.proofs.number_pattern.push_zeros.Given as goal

abbrev pub invariant-loop-left : goal.invariant-loop-left
invariant-loop-left l =
    string_bytes l.text ++ encode_utf8_all (zeros l.left) ≡ string_bytes l.initial.text ++ encode_utf8_all (zeros l.count)

abbrev pub decreases-loop-left : goal.decreases-loop-left
decreases-loop-left l = l.left
