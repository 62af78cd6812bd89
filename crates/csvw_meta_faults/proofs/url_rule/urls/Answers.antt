-- One more URL.
use Rattle.std.proofs.Common.{◌∙◌, ◌+◌, sym, take}
use Rattle.csvw_meta.specs.Group.{url_of}
use Rattle.csvw_meta_faults.specs.Seen.{as_table}
use Rattle.csvw_meta_faults.proofs.ItemsLemmas.{map_twice, mapped_more}
use Rattle.csvw_meta_faults.proofs.url_rule.urls.Goals as goal

pub loop-table-preserved : goal.loop-table-preserved
loop-table-preserved c =
    c.in_ok-push.ensures.items
    ∙ (mapped_more (λ t. url_of (as_table t)) c.args.tables.now c.loop-table.table-index c.table-item.result c.loop-table.urls.items _
    c.loop-table-test.true c.table-item.is
    (c.loop-table.invariant ∙ map_twice as_table url_of (take c.loop-table.table-index c.args.tables.now)) c.in_ok-url.ensures
    ∙ sym (map_twice as_table url_of (take (c.loop-table.table-index + 1) c.args.tables.now)))
