use Rattle.std.proofs.Common.{◌≡◌, All, flat_map, take}
use Rattle.csvw_keys.specs.Books.{KeepsBook, no_rows, rules_in}
use Rattle.csvw_keys.specs.KeyRules.{table_rules}
use Rattle.csvw_keys.proofs.key_book.books_of.Given as goal

abbrev pub invariant-loop-plan : goal.invariant-loop-plan
invariant-loop-plan l = record {
  rules : rules_in l.books.items ≡ flat_map table_rules (take l.plan-index l.plans);
  keeps : All (λ b. KeepsBook b no_rows) l.books.items;
}
