-- From the end on there are only dots.
use Rattle.std.proofs.Common.{◌≤◌, length}
use Rattle.csvw_ntriples.proofs.LabelRuns.{DotsFrom}
use Rattle.csvw_ntriples.proofs.reading.label.length_without_dots.Given as goal

abbrev pub invariant-loop-end : goal.invariant-loop-end
invariant-loop-end l = record {
  within : l.end ≤ length l.text;
  dots : DotsFrom l.text l.end;
}

abbrev pub decreases-loop-end : goal.decreases-loop-end
decreases-loop-end l = l.end
