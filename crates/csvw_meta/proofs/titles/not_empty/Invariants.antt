use Rattle.std.proofs.Common.{◌≡◌, take}
use Rattle.csvw_meta.specs.Titles.{not_empty}
use Rattle.csvw_meta.proofs.titles.not_empty.Given as goal

abbrev pub invariant-loop-text : goal.invariant-loop-text
invariant-loop-text l = l.kept.items ≡ not_empty (take l.text-index l.texts)
