-- The faults so far are those of the rows so far.
use Rattle.std.proofs.Common.{◌≡◌, flat_map, take}
use Rattle.csvw_keys.specs.contracts.held.HeldKeyOrd.TheImpl as derived
use Rattle.csvw_keys.specs.ReferenceBooks.{row_fault}
use Rattle.csvw_keys.specs.Tallies.{tally_times}
use Rattle.csvw_keys.proofs.foreign_key.ForeignKey.faults.Given as goal

abbrev pub invariant-loop-row : goal.invariant-loop-row
invariant-loop-row l = l.faults.items
    ≡ flat_map (row_fault (tally_times derived.ghosts.cmp l.tally.ahead l.tally.counts) l.self) (take l.row-index l.rows)
