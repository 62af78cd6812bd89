-- The characters so far were added.
use Rattle.std.proofs.Common.{◌≡◌, ◌++◌, flat_map, string_bytes}
use Rattle.csvw_help.specs.Escapes.{posix_quoted}
use Rattle.csvw_help.proofs.words.push_posix_text.Given as goal

abbrev pub invariant-loop-c : goal.invariant-loop-c
invariant-loop-c l = string_bytes l.text ≡ string_bytes l.initial.text ++ flat_map posix_quoted l.yielded
