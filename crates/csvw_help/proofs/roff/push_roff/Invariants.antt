-- The characters so far were added.
use Rattle.std.proofs.Common.{◌≡◌, ◌++◌, flat_map, string_bytes}
use Rattle.csvw_help.specs.Escapes.{roff_escaped}
use Rattle.csvw_help.proofs.roff.push_roff.Given as goal

abbrev pub invariant-loop-c : goal.invariant-loop-c
invariant-loop-c l = string_bytes l.text ≡ string_bytes l.initial.text ++ flat_map roff_escaped l.yielded
