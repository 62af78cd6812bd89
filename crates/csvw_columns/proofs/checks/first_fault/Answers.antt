-- One table more is fit.
use Rattle.std.proofs.Common.{get_or, below_more, subst, ◌∙◌}
use Rattle.std.proofs.lemmas.List.{get_or_default}
use Rattle.csvw_description.specs.declared.table.TableDescription.{TableDescription}
use Rattle.csvw_description.specs.Plannable.{IsFitTable}
use Rattle.csvw_columns.proofs.checks.first_fault.Goals as goal

pub loop-table-preserved : goal.loop-table-preserved
loop-table-preserved c =
    let found = c.in_ok-code.ensures in
    let this : IsFitTable c.table-item.result = rw c.in_default.is at found in
    below_more (λ k. (d : TableDescription) → IsFitTable (get_or c.args.tables.now k d)) c.loop-table.table-index c.loop-table.invariant
    (λ d. subst IsFitTable (c.table-item.is ∙ get_or_default c.args.tables.now c.loop-table.table-index c.table-item.result d c.loop-table-test.true) this)
