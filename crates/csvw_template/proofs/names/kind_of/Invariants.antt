use Rattle.std.proofs.Common.{◌≡◌, drop, Some}
use Rattle.csvw_template.specs.declared.names.Place.TheVariants.{Front}
use Rattle.csvw_template.specs.Reading.{kind}
use Rattle.csvw_template.proofs.names.kind_of.Given as goal

abbrev pub invariant-loop-b : goal.invariant-loop-b
invariant-loop-b l = kind (Some l.place) (drop l.b-index l.text) ≡ kind (Some Front) l.text
