-- The value of an item comes before those of the remaining ones.
use Rattle.std.proofs.Common.{◌∙◌, ◌+◌, ap, map}
use Rattle.std.proofs.lemmas.List.{map-append}
use Rattle.csvw_meta_core.specs.Pointer.{text_of}
use Rattle.csvw_meta.specs.Table.{table}
use Rattle.csvw_meta_faults.specs.Seen.{as_table, bare_table}
use Rattle.csvw_meta_faults.proofs.ItemsLemmas.{value_more, values_done}
use Rattle.csvw_meta_faults.proofs.seen_group.each_seen.Goals as goal

pub loop-i-preserved : goal.loop-i-preserved
loop-i-preserved c =
    rw (c.in_ok-push.ensures.items, map-append)
    (value_more bare_table (table c.args.context.now) (text_of c.args.part.now.at) (map as_table c.loop-i.tables.items) c.loop-i.i c.index-items-i.result
    c.args.items.now (as_table c.in_ok-table.table) _ c.loop-i-test.true c.index-items-i.is c.loop-i.invariant (c.in_ok-table.ensures (c.loop-i.i + 1)))

pub returns : goal.returns
returns c =
    ap (λ ts. map as_table ts) c.of.ensures
    ∙ values_done bare_table (table c.args.context.now) (text_of c.args.part.now.at) (map as_table c.loop-i.tables.items) c.loop-i.i c.args.items.now _
    c.loop-i-test.false c.loop-i.invariant
