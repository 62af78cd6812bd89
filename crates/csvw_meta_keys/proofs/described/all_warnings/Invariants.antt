use Rattle.std.proofs.Common.{◌≡◌, take}
use Rattle.csvw_meta_keys.specs.Described.{all_warnings}
use Rattle.csvw_meta_keys.proofs.described.all_warnings.Given as goal

abbrev pub invariant-loop-key : goal.invariant-loop-key
invariant-loop-key l = l.warnings.items ≡ all_warnings (take l.key-index l.keys)
