use Rattle.std.proofs.Common.{◌≡◌, List, ℕ, ◌++◌, string_bytes, encode_utf8_all}
use Rattle.csvw_text.specs.declared.spaces.Stand.TheVariants.{Front}
use Rattle.csvw_text.specs.Spaces.{rest}
use Rattle.csvw_text.proofs.spaces.collapse.Given as goal

abbrev pub invariant-loop-c : goal.invariant-loop-c
invariant-loop-c l = (tail : List ℕ) → string_bytes l.out ++ encode_utf8_all (rest l.stand tail) ≡ encode_utf8_all (rest Front (l.yielded ++ tail))
