-- What is found so far, and then what is left, is the whole.
use Rattle.csvw_meta_core.specs.Pointer.{item_at}
use Rattle.csvw_meta_core.specs.Rules.{could_read_property}
use Rattle.csvw_meta_faults.specs.Flags.{AreFlags}
use Rattle.csvw_meta_faults.proofs.names_read.property_known.Given as goal

abbrev pub invariant-loop-i : goal.invariant-loop-i
invariant-loop-i l = AreFlags (λ i. could_read_property l.marks.faults.now (item_at l.at i) l.name) l.i l.known.items
