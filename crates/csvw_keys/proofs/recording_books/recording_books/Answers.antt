-- What the keys of one table more need is recorded, and what the earlier ones need still is.
use Rattle.std.proofs.Common.{◌≡◌, ◌∙◌, [], true, ap, flat_map, sym, subst, take, All}
use Rattle.std.proofs.lemmas.Grind.{flat_map-append}
use Rattle.std.proofs.lemmas.List.{take_all}
use Rattle.std.proofs.lemmas.List.Elements.{All-append, All-nil, All-weaker}
use Rattle.csvw_keys.specs.declared.book.Book.{Book}
use Rattle.csvw_keys.specs.Books.{IsMore, KeepsBook, is_served, no_rows, purposes_of}
use Rattle.csvw_keys.specs.KeyRules.{KeyRule, recorded_for, recorded_rules, table_rules}
use Rattle.csvw_keys.proofs.ReferenceLemmas.{one_row_more}
use Rattle.csvw_keys.proofs.ServingLemmas.{no_more, served_still, still_more}
use Rattle.csvw_keys.proofs.recording_books.recording_books.Goals as goal

pub loop-plan-init : goal.loop-plan-init
loop-plan-init c = record {
  more = subst (IsMore []) (sym c.new-books.ensures.items) (no_more []);
  served = All-nil (λ (rule : KeyRule). is_served (purposes_of c.new-books.result.items) rule ≡ true);
}

pub loop-plan-preserved : goal.loop-plan-preserved
loop-plan-preserved c =
    let inv = c.loop-plan.invariant in
    let now = c.in_ok-record_table.ensures in
    let books = c.loop-plan.books.items in
    let more = c.record_table.new.books.items in
    let plans = c.args.plans.now in
    let plan = c.plan-item.result in
    let i = c.loop-plan.plan-index in
    let before = λ (rule : KeyRule). is_served (purposes_of books) rule ≡ true in
    let after = λ (rule : KeyRule). is_served (purposes_of more) rule ≡ true in
    let so_far = flat_map table_rules (take i plans) in
    record {
      more = still_more [] books more inv.more now.more;
      served = subst (All after)
          (sym (ap recorded_rules (one_row_more table_rules plans i plan c.loop-plan-test.true c.plan-item.is)
          ∙ flat_map-append recorded_for so_far (table_rules plan)))
          (All-append after (recorded_rules so_far) (recorded_rules (table_rules plan))
          (All-weaker before after (served_still books more now.more) _ inv.served) now.served);
    }

pub returns-clause-rules : goal.returns-clause-rules
returns-clause-rules c = c.loop-plan.invariant.more.rules

pub returns-clause-keeps : goal.returns-clause-keeps
returns-clause-keeps c = c.loop-plan.invariant.more.keeps (All-nil (λ (b : Book). KeepsBook b no_rows))

pub returns-clause-served : goal.returns-clause-served
returns-clause-served c =
    subst (λ plans. All (λ rule. is_served (purposes_of c.loop-plan.books.items) rule ≡ true) (recorded_rules (flat_map table_rules plans)))
    (take_all c.loop-plan.plan-index c.args.plans.now c.loop-plan-test.false) c.loop-plan.invariant.served
