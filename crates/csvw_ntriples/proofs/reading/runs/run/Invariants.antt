-- The characters so far are of the class.
use Rattle.std.proofs.Common.{◌≡◌, take, true}
use Rattle.std.specs.List.{list_all}
use Rattle.csvw_ntriples.specs.Reading.{is_in}
use Rattle.csvw_ntriples.proofs.reading.runs.run.Given as goal

abbrev pub invariant-loop-i : goal.invariant-loop-i
invariant-loop-i l = list_all (is_in l.class) (take l.i l.text) ≡ true
