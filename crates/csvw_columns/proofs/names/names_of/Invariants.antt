-- The names of the columns passed so far.
use Rattle.std.proofs.Common.{◌≡◌, map, take}
use Rattle.csvw_columns.proofs.names.names_of.Given as goal

abbrev pub invariant-loop-column : goal.invariant-loop-column
invariant-loop-column l = l.names.items ≡ map (λ c. c.name) (take l.column-index l.columns)
