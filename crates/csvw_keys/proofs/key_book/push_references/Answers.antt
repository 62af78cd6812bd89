use Rattle.std.proofs.Common.{◌∙◌, ◌++◌, ◌∷◌, [], append_assoc, ap, map, sym, subst, take, All}
use Rattle.std.proofs.lemmas.List.{map_more}
use Rattle.std.proofs.lemmas.List.Elements.{All-push}
use Rattle.csvw_keys.specs.declared.book.Book.{Book}
use Rattle.csvw_keys.specs.Books.{KeepsBook, no_rows, rules_in}
use Rattle.csvw_keys.specs.KeyRules.{reference_rule}
use Rattle.csvw_keys.proofs.ServingLemmas.{rule_more}
use Rattle.csvw_keys.proofs.key_book.push_references.Goals as goal

pub loop-key-preserved : goal.loop-key-preserved
loop-key-preserved c =
    let books = c.loop-key.books.items in
    let before = c.args.books.now.items in
    let rule = reference_rule c.args.table in
    let key = c.key-item.result in
    let keys = c.args.keys.now in
    let book = c.in_ok-book.book in
    let keeps = λ (b : Book). KeepsBook b no_rows in
    record {
      rules = ap rules_in c.in_ok-push.ensures.items
          ∙ rule_more books book (rule key) c.in_ok-book.ensures.purpose
          ∙ ap (λ rules. rules ++ rule key ∷ []) c.loop-key.invariant.rules
          ∙ append_assoc (rules_in before) (map rule (take c.loop-key.key-index keys)) (rule key ∷ [])
          ∙ ap (λ k. rules_in before ++ (map rule (take c.loop-key.key-index keys) ++ rule k ∷ [])) c.key-item.is
          ∙ ap (λ rules. rules_in before ++ rules) (sym (map_more rule keys c.loop-key.key-index key c.loop-key-test.true));
      keeps = λ all. subst (All keeps) (sym c.in_ok-push.ensures.items) (All-push keeps books book (c.loop-key.invariant.keeps all) c.in_ok-book.ensures.keeps);
    }
