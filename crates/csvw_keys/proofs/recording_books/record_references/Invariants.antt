-- There are more books for the same keys. They record what each foreign key so far needs.
use Rattle.std.proofs.Common.{◌≡◌, true, All, map, take}
use Rattle.csvw_keys.specs.Books.{IsMore, is_served, purposes_of}
use Rattle.csvw_keys.specs.KeyRules.{recorded_rules, reference_rule}
use Rattle.csvw_keys.proofs.recording_books.record_references.Given as goal

abbrev pub invariant-loop-key : goal.invariant-loop-key
invariant-loop-key l = record {
  more : IsMore l.initial.books.items l.books.items;
  served : All (λ rule. is_served (purposes_of l.books.items) rule ≡ true) (recorded_rules (map (reference_rule l.table) (take l.key-index l.keys)));
}
