-- One foreign key more is served, and the earlier ones still are.
use Rattle.std.proofs.Common.{◌≡◌, ◌∙◌, ◌++◌, ◌∷◌, [], true, ap, map, sym, subst, take, All}
use Rattle.std.proofs.lemmas.List.{map_more, take_all}
use Rattle.std.proofs.lemmas.List.Elements.{All-nil, All-push, All-weaker}
use Rattle.csvw_keys.specs.Books.{is_served, purposes_of}
use Rattle.csvw_keys.specs.KeyRules.{KeyRule, reference_rule}
use Rattle.csvw_keys.proofs.ServingLemmas.{no_more, served_still, still_more}
use Rattle.csvw_keys.proofs.key_book.serve_keys.Goals as goal

pub loop-key-init : goal.loop-key-init
loop-key-init c = record {
  more = no_more c.args.books.now.items;
  served = All-nil (λ (rule : KeyRule). is_served (purposes_of c.args.books.now.items) rule ≡ true);
}

pub loop-key-preserved : goal.loop-key-preserved
loop-key-preserved c =
    let inv = c.loop-key.invariant in
    let now = c.in_ok-serve.ensures in
    let books = c.loop-key.books.items in
    let more = c.serve.new.books.items in
    let keys = c.args.keys.now in
    let key = c.key-item.result in
    let i = c.loop-key.key-index in
    let rule = reference_rule c.args.table in
    let before = λ (rule : KeyRule). is_served (purposes_of books) rule ≡ true in
    let after = λ (rule : KeyRule). is_served (purposes_of more) rule ≡ true in
    record {
      more = still_more _ books more inv.more now.more;
      served = subst (All after) (sym (map_more rule keys i key c.loop-key-test.true ∙ ap (λ k. map rule (take i keys) ++ rule k ∷ []) (sym c.key-item.is)))
          (All-push after (map rule (take i keys)) (rule key)
          (All-weaker before after (served_still books more now.more) _ inv.served) now.served);
    }

pub returns-clause-served : goal.returns-clause-served
returns-clause-served c =
    subst (λ keys. All (λ rule. is_served (purposes_of c.loop-key.books.items) rule ≡ true) (map (reference_rule c.args.table) keys))
    (take_all c.loop-key.key-index c.args.keys.now c.loop-key-test.false) c.loop-key.invariant.served
