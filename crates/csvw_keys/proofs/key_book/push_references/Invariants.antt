use Rattle.std.proofs.Common.{◌≡◌, ◌++◌, All, map, take}
use Rattle.csvw_keys.specs.Books.{KeepsBook, no_rows, rules_in}
use Rattle.csvw_keys.specs.KeyRules.{reference_rule}
use Rattle.csvw_keys.proofs.key_book.push_references.Given as goal

abbrev pub invariant-loop-key : goal.invariant-loop-key
invariant-loop-key l = record {
  rules : rules_in l.books.items ≡ rules_in l.initial.books.items ++ map (reference_rule l.table) (take l.key-index l.keys);
  keeps : All (λ b. KeepsBook b no_rows) l.initial.books.items → All (λ b. KeepsBook b no_rows) l.books.items;
}
