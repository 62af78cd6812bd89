-- The rest of the list decides.
use Rattle.std.proofs.Common.{◌≡◌, drop}
use Rattle.std.specs.List.{list_any}
use Rattle.csvw_annotate.specs.Sharing.{is_of_column}
use Rattle.csvw_annotate.proofs.sharing.any_of_column.Given as goal

abbrev pub invariant-loop-name : goal.invariant-loop-name
invariant-loop-name l = list_any is_of_column l.names ≡ list_any is_of_column (drop l.name-index l.names)
