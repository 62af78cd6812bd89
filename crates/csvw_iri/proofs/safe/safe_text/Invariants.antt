use Rattle.std.proofs.Common.{◌≡◌, flat_map, string_bytes}
use Rattle.csvw_iri.proofs.SafeLemmas.{safe_char}
use Rattle.csvw_iri.proofs.safe.safe_text.Given as goal

abbrev pub invariant-loop-c : goal.invariant-loop-c
invariant-loop-c l = string_bytes l.out ≡ flat_map safe_char l.yielded
