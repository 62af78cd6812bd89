-- The value of an item comes before those of the remaining ones.
use Rattle.std.proofs.Common.{◌∙◌, ◌+◌}
use Rattle.csvw_meta_core.specs.Pointer.{text_of}
use Rattle.csvw_meta.specs.Column.{column}
use Rattle.csvw_meta_faults.specs.Seen.{bare_column}
use Rattle.csvw_meta_faults.proofs.ItemsLemmas.{value_more, values_done}
use Rattle.csvw_meta_faults.proofs.seen_schema.each_seen.Goals as goal

pub loop-i-preserved : goal.loop-i-preserved
loop-i-preserved c = λ table.
    rw c.in_ok-push.ensures.items
    (value_more bare_column (column c.args.context.now table) (text_of c.args.part.now.at) c.loop-i.columns.items c.loop-i.i c.index-items-i.result
    c.args.items.now c.in_ok-column.column _ c.loop-i-test.true c.index-items-i.is (c.loop-i.invariant table) (c.in_ok-column.ensures table (c.loop-i.i + 1)))

pub returns : goal.returns
returns c = λ table.
    c.of.ensures
    ∙ values_done bare_column (column c.args.context.now table) (text_of c.args.part.now.at) c.loop-i.columns.items c.loop-i.i c.args.items.now _
    c.loop-i-test.false (c.loop-i.invariant table)
