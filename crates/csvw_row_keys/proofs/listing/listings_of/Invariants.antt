use Rattle.std.proofs.Common.{◌≡◌, ◌+◌, length, flat_map, take}
use Rattle.csvw_keys.specs.KeyRules.{table_rules}
use Rattle.csvw_row_keys.specs.Listings.{listings_from}
use Rattle.csvw_row_keys.proofs.listing.listings_of.Given as goal

abbrev pub invariant-loop-table : goal.invariant-loop-table
invariant-loop-table l = record {
  listed : l.listings.items ≡ listings_from 1 (flat_map table_rules (take l.table-index l.plan.tables));
  rule : l.rule ≡ 1 + length (flat_map table_rules (take l.table-index l.plan.tables));
}
