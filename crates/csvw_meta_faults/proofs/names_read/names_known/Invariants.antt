-- What is found so far, and then what is left, is the whole.
use Rattle.csvw_meta.specs.NamesRead.{name_known}
use Rattle.csvw_meta_faults.specs.Flags.{AreFlags}
use Rattle.csvw_meta_faults.proofs.names_read.names_known.Given as goal

abbrev pub invariant-loop-i : goal.invariant-loop-i
invariant-loop-i l = AreFlags (name_known l.marks.faults.now l.at l.columns) l.i l.known.items
