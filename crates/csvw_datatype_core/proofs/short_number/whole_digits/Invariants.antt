use Rattle.std.proofs.Common.{◌≡◌, length}
use Rattle.csvw_datatype_core.specs.declared.number.NumberRules.{NumberRules}
use Rattle.csvw_datatype_core.specs.declared.number.Scan.{Scan}
use Rattle.csvw_datatype_core.specs.declared.number.Place.TheVariants as places
use Rattle.csvw_datatype_core.specs.Step.{Continues, IsBegun}
use Rattle.csvw_datatype_core.proofs.short_number.whole_digits.Given as goal

abbrev pub invariant-loop-rest : goal.invariant-loop-rest
invariant-loop-rest l = (rules : NumberRules) (s : Scan) → IsBegun s → s.place ≡ places.Whole → s.whole ≡ l.first
    → Continues rules s l.bytes (record s { whole = l.value }) l.rest

abbrev pub decreases-loop-rest : goal.decreases-loop-rest
decreases-loop-rest l = length l.rest
