-- The bytes so far were copied, and none of them is escaped.
use Rattle.std.proofs.Common.{◌-◌, ◌≤◌, length}
use Rattle.csvw_ntriples.specs.Escape.{PlainBetween}
use Rattle.csvw_ntriples.specs.PlainCopy.{IsCopied}
use Rattle.csvw_ntriples.proofs.unescaped.copy_plain_long.Given as goal

abbrev pub invariant-loop-at : goal.invariant-loop-at
invariant-loop-at l = (l.at ≤ length l.bytes) × IsCopied l.bytes l.room l.at × PlainBetween l.bytes 0 l.at

abbrev pub decreases-loop-at : goal.decreases-loop-at
decreases-loop-at l = length l.bytes - l.at
