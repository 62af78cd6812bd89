-- The first items were judged.
use Rattle.std.proofs.Common.{map, take}
use Rattle.csvw_cell.specs.CellOf.{AreItems, texts_of}
use Rattle.csvw_cell.proofs.list.judge_items.Given as goal

abbrev pub invariant-loop-part : goal.invariant-loop-part
invariant-loop-part l =
    AreItems l.properties.datatype (texts_of l.properties (map (λ x. x.now) (take l.part-index l.parts))) l.items.items l.causes.items
