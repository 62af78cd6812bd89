-- There are more books for the same keys. They serve each key of the tables so far.
use Rattle.std.proofs.Common.{◌≡◌, true, All, flat_map, take}
use Rattle.csvw_keys.specs.Books.{IsMore, is_served, purposes_of}
use Rattle.csvw_keys.specs.KeyRules.{table_rules}
use Rattle.csvw_keys.proofs.key_book.serve_tables.Given as goal

abbrev pub invariant-loop-plan : goal.invariant-loop-plan
invariant-loop-plan l = record {
  more : IsMore l.initial.books.items l.books.items;
  served : All (λ rule. is_served (purposes_of l.books.items) rule ≡ true) (flat_map table_rules (take l.plan-index l.plans));
}
