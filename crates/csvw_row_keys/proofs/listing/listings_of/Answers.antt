use Rattle.std.proofs.Common.{◌≡◌, ◌<◌, get_or, length}
use Rattle.csvw_keys.specs.KeyRules.{table_rules}
use Rattle.csvw_row_keys.proofs.ListingLemmas.{table_counted, table_listed}
use Rattle.csvw_row_keys.proofs.listing.listings_of.Goals as goal

pub loop-table-preserved : goal.loop-table-preserved
loop-table-preserved c =
    let tables = c.args.plan.now.tables in
    let i = c.loop-table.table-index in
    let table = c.table-item.result in
    let lt : i < length tables = rw c.tables-table-items.ensures at c.loop-table-test.true in
    let is : table ≡ get_or tables i table = rw c.tables-table-items.ensures at c.table-item.is in
    record {
      listed = table_listed table_rules tables i table lt is 1 c.loop-table.rule c.loop-table.listings.items _
          c.loop-table.invariant.listed c.loop-table.invariant.rule c.in_ok-rule.ensures.listed;
      rule = table_counted table_rules tables i table lt is 1 c.loop-table.rule _ c.loop-table.invariant.rule c.in_ok-rule.ensures.next;
    }
