-- The books have no key. They record what the keys of the tables so far need.
use Rattle.std.proofs.Common.{◌≡◌, [], true, All, flat_map, take}
use Rattle.csvw_keys.specs.Books.{IsMore, is_served, purposes_of}
use Rattle.csvw_keys.specs.KeyRules.{recorded_rules, table_rules}
use Rattle.csvw_keys.proofs.recording_books.recording_books.Given as goal

abbrev pub invariant-loop-plan : goal.invariant-loop-plan
invariant-loop-plan l = record {
  more : IsMore [] l.books.items;
  served : All (λ rule. is_served (purposes_of l.books.items) rule ≡ true) (recorded_rules (flat_map table_rules (take l.plan-index l.plans)));
}
