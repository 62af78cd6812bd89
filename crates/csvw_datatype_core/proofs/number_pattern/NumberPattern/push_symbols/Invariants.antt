-- The text, with what is left of the pattern, is the whole one.
use Rattle.std.proofs.Common.{◌≡◌, ◌++◌, length, string_bytes, encode_utf8_all}
use Rattle.csvw_datatype_core.specs.NumberPatterns.{left, symbols, whole_shown}
use Rattle.csvw_datatype_core.proofs.number_pattern.NumberPattern.push_symbols.Given as goal

abbrev pub invariant-loop-symbol : goal.invariant-loop-symbol
invariant-loop-symbol l =
    string_bytes l.text ++ encode_utf8_all (left l.rules l.self l.rest)
    ≡ string_bytes l.initial.text ++ encode_utf8_all (symbols l.rules l.self (whole_shown l.self))

abbrev pub decreases-loop-symbol : goal.decreases-loop-symbol
decreases-loop-symbol l = length (left l.rules l.self l.rest)
