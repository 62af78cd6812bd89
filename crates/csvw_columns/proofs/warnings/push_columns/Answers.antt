-- The warnings of one more column.
use Rattle.std.proofs.Common.{◌∙◌, ◌++◌, ap}
use Rattle.csvw_description.specs.declared.column.ColumnDescription.{ColumnDescription}
use Rattle.csvw_columns.proofs.MapLemmas.{flat_longer}
use Rattle.csvw_columns.proofs.warnings.push_columns.Goals as goal

pub loop-column-preserved : goal.loop-column-preserved
loop-column-preserved c =
    flat_longer (λ (d : ColumnDescription). d.warnings) c.args.columns.now c.loop-column.column-index c.column-item.result _ c.loop-column-test.true
    c.column-item.is c.loop-column.invariant (c.in_ok-extend_from_slice.ensures.items ∙ ap (λ l. c.loop-column.out.items ++ l) c.as_slice.ensures)
