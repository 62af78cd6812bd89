-- The items so far.
use Rattle.std.proofs.Common.{◌≡◌, take}
use Rattle.csvw_columns.specs.Keys.{numbers_of}
use Rattle.csvw_columns.proofs.references.numbers_of.Given as goal

abbrev pub invariant-loop-name : goal.invariant-loop-name
invariant-loop-name l = l.numbers.items ≡ numbers_of l.names (take l.name-index l.key)
