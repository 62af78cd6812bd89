-- The source number of the last row passed.
use Rattle.std.proofs.Common.{◌≡◌, take}
use Rattle.csvw_columns_core.specs.HeaderFits.{last_source}
use Rattle.csvw_columns_core.proofs.header.last_source.Given as goal

abbrev pub invariant-loop-row : goal.invariant-loop-row
invariant-loop-row l = l.source ≡ last_source (take l.row-index l.rows)
