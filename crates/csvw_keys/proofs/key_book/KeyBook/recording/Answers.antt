-- What is recorded is no key.
use Rattle.std.proofs.Common.{◌≡◌, ◌∙◌, true, sym}
use Rattle.std.proofs.lemmas.List.Elements.{All-nil}
use Rattle.csvw_keys.specs.Books.{is_served, purposes_of}
use Rattle.csvw_keys.specs.KeyRules.{KeyRule, rules_of}
use Rattle.csvw_keys.proofs.RecordingLemmas.{no_keys}
use Rattle.csvw_keys.proofs.key_book.KeyBook.recording.Goals as goal

pub returns-clause-no_keys : goal.returns-clause-no_keys
returns-clause-no_keys c = record {
  rules = c.in_ok-books.ensures.rules;
  served = All-nil (λ (rule : KeyRule). is_served (purposes_of c.in_ok-books.books.items) rule ≡ true);
  keeps = c.in_ok-books.ensures.keeps;
}

pub returns-clause-records : goal.returns-clause-records
returns-clause-records c = record {
  rules = c.in_ok-books.ensures.rules ∙ sym (no_keys (rules_of c.args.plan.now));
  served = rw c.tables.ensures at c.in_ok-books.ensures.served;
  keeps = c.in_ok-books.ensures.keeps;
}
