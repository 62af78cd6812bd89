-- None of the bytes so far is the one that is looked for.
use Rattle.std.proofs.Common.{◌≡◌, ◌==◌, take, false}
use Rattle.std.specs.List.{list_any}
use Rattle.csvw_key_records.proofs.digits.parted.Given as goal

abbrev pub invariant-loop-i : goal.invariant-loop-i
invariant-loop-i l = list_any (λ b. b == l.end) (take l.i l.text) ≡ false
