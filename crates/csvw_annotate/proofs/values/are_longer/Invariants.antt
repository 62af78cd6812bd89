-- The items passed so far, each with a comma, have at least so many bytes.
use Rattle.std.proofs.Common.{◌≤◌, take}
use Rattle.csvw_annotate.proofs.ListedLemmas.{with_commas}
use Rattle.csvw_annotate.proofs.values.are_longer.Given as goal

abbrev pub invariant-loop-item : goal.invariant-loop-item
invariant-loop-item l = l.len ≤ with_commas (take l.item-index l.items)
