-- None of the codes so far has the name.
use Rattle.std.proofs.Common.{◌≡◌, bytes_eq, false, take}
use Rattle.std.specs.List.{list_any}
use Rattle.csvw_fault.specs.Code.{name_of}
use Rattle.csvw_reports.proofs.code.find_code.Given as goal

abbrev pub invariant-loop-code : goal.invariant-loop-code
invariant-loop-code l = list_any (λ c. bytes_eq (name_of c) l.name) (take l.code-index l.codes) ≡ false
