-- What one foreign key more needs is recorded, and what the earlier ones need still is.
use Rattle.std.proofs.Common.{◌≡◌, true, map, sym, subst, take, All}
use Rattle.std.proofs.lemmas.List.{take_all}
use Rattle.std.proofs.lemmas.List.Elements.{All-append, All-nil, All-weaker}
use Rattle.csvw_keys.specs.Books.{is_served, purposes_of}
use Rattle.csvw_keys.specs.KeyRules.{KeyRule, recorded_for, recorded_rules, reference_rule}
use Rattle.csvw_keys.proofs.RecordingLemmas.{one_key_recorded}
use Rattle.csvw_keys.proofs.ServingLemmas.{no_more, served_still, still_more}
use Rattle.csvw_keys.proofs.recording_books.record_references.Goals as goal

pub loop-key-init : goal.loop-key-init
loop-key-init c = record {
  more = no_more c.args.books.now.items;
  served = All-nil (λ (rule : KeyRule). is_served (purposes_of c.args.books.now.items) rule ≡ true);
}

pub loop-key-preserved : goal.loop-key-preserved
loop-key-preserved c =
    let inv = c.loop-key.invariant in
    let now = c.in_ok-record_reference.ensures in
    let books = c.loop-key.books.items in
    let more = c.record_reference.new.books.items in
    let keys = c.args.keys.now in
    let key = c.key-item.result in
    let i = c.loop-key.key-index in
    let rule = reference_rule c.args.table in
    let before = λ (rule : KeyRule). is_served (purposes_of books) rule ≡ true in
    let after = λ (rule : KeyRule). is_served (purposes_of more) rule ≡ true in
    record {
      more = still_more _ books more inv.more now.more;
      served = subst (All after) (sym (one_key_recorded rule keys i key c.loop-key-test.true c.key-item.is))
          (All-append after (recorded_rules (map rule (take i keys))) (recorded_for (rule key))
          (All-weaker before after (served_still books more now.more) _ inv.served) now.served);
    }

pub returns-clause-served : goal.returns-clause-served
returns-clause-served c =
    subst (λ keys. All (λ rule. is_served (purposes_of c.loop-key.books.items) rule ≡ true) (recorded_rules (map (reference_rule c.args.table) keys)))
    (take_all c.loop-key.key-index c.args.keys.now c.loop-key-test.false) c.loop-key.invariant.served
