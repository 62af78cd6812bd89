-- The rules of a plan are keys.
use Rattle.std.proofs.Common.{◌∙◌, ap, flat_map, sym}
use Rattle.csvw_keys.specs.KeyRules.{table_rules}
use Rattle.csvw_keys.proofs.RecordingLemmas.{plan_keys}
use Rattle.csvw_keys.proofs.key_book.KeyBook.new.Goals as goal

pub returns : goal.returns
returns c = record {
  rules = c.in_ok-serve_tables.ensures.more.rules ∙ c.in_ok-books.ensures.rules ∙ ap (flat_map table_rules) c.tables.ensures ∙ sym (plan_keys c.args.plan.now.tables);
  served = rw c.tables-2.ensures at c.in_ok-serve_tables.ensures.served;
  keeps = c.in_ok-serve_tables.ensures.more.keeps c.in_ok-books.ensures.keeps;
}
