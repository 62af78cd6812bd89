-- The parts that were cut off and then those of the rest are the parts of the text.
use Rattle.std.proofs.Common.{List, ℕ, map, ◌++◌, length}
use denote.Text.{Utf8}
use denote.Shadow.{shadow}
use Rattle.csvw_cell.specs.CellOf.{ArePartsBy}
use Rattle.csvw_cell.proofs.list.parts_by.Given as goal

abbrev pub invariant-loop-part : goal.invariant-loop-part
invariant-loop-part l =
    (goes_on : (more : List (List ℕ)) → ArePartsBy l.separator l.rest more → ArePartsBy l.separator l.text (map (λ x. x.now) l.parts.items ++ more))
    × shadow (Utf8 l.rest)

abbrev pub decreases-loop-part : goal.decreases-loop-part
decreases-loop-part l = length l.rest
