-- What is left decides alone.
use Rattle.std.proofs.Common.{◌≡◌, drop}
use Rattle.std.specs.List.{list_any}
use Rattle.csvw_meta.specs.NamesRead.{hides_one}
use Rattle.csvw_meta_faults.proofs.hidden_names.hides_one.Given as goal

abbrev pub invariant-loop-i : goal.invariant-loop-i
invariant-loop-i l = list_any (hides_one l.at l.i (drop l.i l.columns)) l.marks.faults.now ≡ list_any (hides_one l.at 0 l.columns) l.marks.faults.now
