use Rattle.std.proofs.Common.{◌≡◌, ◌+◌, ◌++◌, length, map, take}
use Rattle.csvw_keys.specs.KeyRules.{reference_rule}
use Rattle.csvw_row_keys.specs.Listings.{listings_from}
use Rattle.csvw_row_keys.proofs.listing.list_references.Given as goal

abbrev pub invariant-loop-key : goal.invariant-loop-key
invariant-loop-key l = record {
  listed : l.listings.items ≡ l.initial.listings.items ++ listings_from l.rule (map (reference_rule l.plan.number) (take l.key-index l.plan.foreign_keys));
  next : l.next ≡ l.rule + length (map (reference_rule l.plan.number) (take l.key-index l.plan.foreign_keys));
}
