-- The places of the columns passed so far.
use Rattle.std.proofs.Common.{take}
use Rattle.csvw_columns_core.specs.ByName.{ArePlaces}
use Rattle.csvw_columns_core.proofs.column_list.places_of.Given as goal

abbrev pub invariant-loop-i : goal.invariant-loop-i
invariant-loop-i l = ArePlaces (take l.i l.columns) l.places
