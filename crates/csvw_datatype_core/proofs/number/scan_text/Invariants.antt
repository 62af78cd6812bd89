use Rattle.std.proofs.Common.{◌≡◌}
use Rattle.csvw_datatype_core.specs.Step.{begun, run, IsSmall}
use Rattle.csvw_datatype_core.proofs.number.scan_text.Given as goal

abbrev pub invariant-loop-c : goal.invariant-loop-c
invariant-loop-c l = (l.scan ≡ run l.rules begun l.yielded) × IsSmall l.scan
