-- The characters so far were added.
use Rattle.std.proofs.Common.{◌≡◌, ◌++◌, flat_map, string_bytes}
use Rattle.csvw_page.proofs.EscapeLemmas.{escape_char}
use Rattle.csvw_page.proofs.escape.push_escaped.Given as goal

abbrev pub invariant-loop-c : goal.invariant-loop-c
invariant-loop-c l = string_bytes l.out ≡ string_bytes l.initial.out ++ flat_map escape_char l.yielded
