use Rattle.std.proofs.Common.{◌≡◌, flat_map, string_bytes}
use Rattle.csvw_meta_core.proofs.PointerLemmas.{escape_char}
use Rattle.csvw_meta_core.proofs.pointer.escaped.Given as goal

abbrev pub invariant-loop-c : goal.invariant-loop-c
invariant-loop-c l = string_bytes l.out ≡ flat_map escape_char l.yielded
