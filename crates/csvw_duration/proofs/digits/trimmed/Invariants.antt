use Rattle.std.proofs.Common.{◌≡◌, length}
use Rattle.std.specs.Str.{IsAscii}
use Rattle.csvw_duration.specs.Digits.{trimmed}
use Rattle.csvw_duration.proofs.digits.trimmed.Given as goal

abbrev pub invariant-loop-last : goal.invariant-loop-last
invariant-loop-last l = (trimmed l.kept ≡ trimmed l.digits) × (IsAscii l.digits → IsAscii l.kept)

abbrev pub decreases-loop-last : goal.decreases-loop-last
decreases-loop-last l = length l.kept
