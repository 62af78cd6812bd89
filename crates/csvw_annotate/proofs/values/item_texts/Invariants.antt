-- The texts of the items passed so far.
use Rattle.std.proofs.Common.{◌≡◌, map, take}
use Rattle.csvw_annotate.specs.CellVariables.{item_text}
use Rattle.csvw_annotate.proofs.values.item_texts.Given as goal

abbrev pub invariant-loop-item : goal.invariant-loop-item
invariant-loop-item l = l.texts ≡ map item_text (take l.item-index l.items)
