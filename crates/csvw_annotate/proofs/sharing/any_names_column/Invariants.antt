-- The rest of the list decides.
use Rattle.std.proofs.Common.{◌≡◌, drop}
use Rattle.std.specs.List.{list_any}
use Rattle.csvw_annotate.specs.Sharing.{names_column}
use Rattle.csvw_annotate.proofs.sharing.any_names_column.Given as goal

abbrev pub invariant-loop-part : goal.invariant-loop-part
invariant-loop-part l = list_any names_column l.parts ≡ list_any names_column (drop l.part-index l.parts)
