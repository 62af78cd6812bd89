-- The first codes were found.
use Rattle.std.proofs.Common.{◌≡◌, take}
use Rattle.std.specs.Prelude.{filter}
use Rattle.csvw_cell.specs.Codes.{is_among}
use Rattle.csvw_cell.proofs.codes.chosen.Given as goal

abbrev pub invariant-loop-code : goal.invariant-loop-code
invariant-loop-code l = l.found ≡ filter (is_among l.causes) (take l.code-index l.codes)
