-- All items that were passed are texts.
use Rattle.std.proofs.Common.{◌≡◌, drop}
use Rattle.serde_json.specs.View.{items_view}
use Rattle.csvw_defaults.specs.Permitted.{are_texts}
use Rattle.csvw_defaults.proofs.permitted.are_texts.Given as goal

abbrev pub invariant-loop-item : goal.invariant-loop-item
invariant-loop-item l = are_texts (items_view (drop l.item-index l.items)) ≡ are_texts (items_view l.items)
