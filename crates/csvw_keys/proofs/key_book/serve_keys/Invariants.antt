-- There are more books for the same keys. They serve each foreign key so far.
use Rattle.std.proofs.Common.{◌≡◌, true, All, map, take}
use Rattle.csvw_keys.specs.Books.{IsMore, is_served, purposes_of}
use Rattle.csvw_keys.specs.KeyRules.{reference_rule}
use Rattle.csvw_keys.proofs.key_book.serve_keys.Given as goal

abbrev pub invariant-loop-key : goal.invariant-loop-key
invariant-loop-key l = record {
  more : IsMore l.initial.books.items l.books.items;
  served : All (λ rule. is_served (purposes_of l.books.items) rule ≡ true) (map (reference_rule l.table) (take l.key-index l.keys));
}
