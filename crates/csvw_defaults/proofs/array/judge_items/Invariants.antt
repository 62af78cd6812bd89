-- What was judged of the items that were passed, with what the others become, is what all items become.
use Rattle.csvw_meta_core.specs.Pointer.{text_of}
use Rattle.csvw_defaults.specs.Sources.{source_of}
use Rattle.csvw_defaults.proofs.ItemLemmas.{Passed}
use Rattle.csvw_defaults.proofs.array.judge_items.Given as goal

abbrev pub invariant-loop-i : goal.invariant-loop-i
invariant-loop-i g l = Passed (g.I.Items.rule l.rule) (text_of l.node.part.at) (source_of l.node.source) l.items l.fn.faults.items l.faults.items l.left.items l.is_ignored l.i
