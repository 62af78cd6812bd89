use Rattle.std.proofs.Common.{◌≡◌, take}
use Rattle.csvw_meta_keys.specs.Described.{names_of}
use Rattle.csvw_meta_keys.proofs.described.names_of.Given as goal

abbrev pub invariant-loop-name : goal.invariant-loop-name
invariant-loop-name l = l.names.items ≡ names_of (take l.name-index l.key)
