-- The book of the primary key, if there is one.
use Rattle.std.proofs.Common.{◌∙◌, ◌++◌, sym, ap, subst, All}
use Rattle.std.proofs.lemmas.List.Elements.{All-push}
use Rattle.csvw_keys.specs.declared.book.Book.{Book}
use Rattle.csvw_keys.specs.Books.{KeepsBook, no_rows, rules_in}
use Rattle.csvw_keys.specs.KeyRules.KeyRule.{Unique}
use Rattle.csvw_keys.proofs.ServingLemmas.{primary_of_some, rule_more}
use Rattle.csvw_keys.proofs.key_book.push_primary.Goals as goal

pub returns-clause-rules : goal.returns-clause-rules
returns-clause-rules c =
    let books = c.args.books.now.items in
    let columns = c.args.columns.now in
    ap rules_in c.in_ok-push.ensures.items ∙ rule_more books c.in_ok-book.book (Unique c.args.table columns) c.in_ok-book.ensures.purpose
    ∙ ap (λ rules. rules_in books ++ rules) (sym (primary_of_some c.args.table columns (sym c.is_empty.ensures ∙ c.if-is_empty.false)))

pub returns-clause-keeps : goal.returns-clause-keeps
returns-clause-keeps c = λ all.
    let keeps = λ (b : Book). KeepsBook b no_rows in
    subst (All keeps) (sym c.in_ok-push.ensures.items) (All-push keeps c.args.books.now.items c.in_ok-book.book all c.in_ok-book.ensures.keeps)
