use Rattle.std.proofs.Common.{◌≡◌, ◌<◌, get_or, length}
use Rattle.csvw_keys.specs.KeyRules.{reference_rule}
use Rattle.csvw_row_keys.proofs.ListingLemmas.{key_counted, key_listed}
use Rattle.csvw_row_keys.proofs.listing.list_references.Goals as goal

pub loop-key-preserved : goal.loop-key-preserved
loop-key-preserved c =
    let keys = c.args.plan.now.foreign_keys in
    let i = c.loop-key.key-index in
    let key = c.key-item.result in
    let rule = reference_rule c.args.plan.now.number in
    let lt : i < length keys = rw c.as_slice-key-items.ensures at c.loop-key-test.true in
    let is : key ≡ get_or keys i key = rw c.as_slice-key-items.ensures at c.key-item.is in
    record {
      listed = key_listed rule keys i key lt is c.args.rule c.loop-key.next c.args.listings.now.items c.loop-key.listings.items _
          c.loop-key.invariant.listed c.loop-key.invariant.next c.in_ok-list_reference.ensures;
      next = key_counted rule keys i key lt is c.args.rule c.loop-key.next _ c.loop-key.invariant.next c.in_ok-next.ensures;
    }
