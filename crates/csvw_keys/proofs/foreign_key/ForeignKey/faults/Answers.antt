-- The faults of one row more.
use Rattle.std.proofs.Common.{◌∙◌, ◌++◌, sym, ap}
use Rattle.csvw_keys.specs.contracts.held.HeldKeyOrd.TheImpl as derived
use Rattle.csvw_keys.specs.ReferenceBooks.{fault_by_times, row_fault}
use Rattle.csvw_keys.specs.Tallies.{tally_times}
use Rattle.csvw_keys.proofs.ReferenceLemmas.{one_row_more}
use Rattle.csvw_keys.proofs.foreign_key.ForeignKey.faults.Goals as goal

pub loop-row-preserved : goal.loop-row-preserved
loop-row-preserved c =
    let key = c.args.self.now in
    let so_often = tally_times derived.ghosts.cmp c.args.tally.now.ahead c.args.tally.now.counts in
    let row = c.row-item.result in
    let so_far = c.loop-row.faults.items in
    c.in_ok-push_fault.ensures
    ∙ ap (λ t. so_far ++ fault_by_times t key.table c.as_slice-columns.result.now row.source) c.times-times.ensures
    ∙ ap (λ columns. so_far ++ fault_by_times (so_often row.key) key.table columns row.source) c.as_slice-columns.ensures
    ∙ ap (λ faults. faults ++ row_fault so_often key row) c.loop-row.invariant
    ∙ sym (one_row_more (row_fault so_often key) c.args.rows.now c.loop-row.row-index row c.loop-row-test.true c.row-item.is)
