-- The keys of one table more are served, and the earlier ones still are.
use Rattle.std.proofs.Common.{◌≡◌, true, map, flat_map, sym, subst, take, All}
use Rattle.std.proofs.lemmas.List.{take_all}
use Rattle.std.proofs.lemmas.List.Elements.{All-append, All-nil, All-weaker}
use Rattle.csvw_keys.specs.Books.{is_served, purposes_of}
use Rattle.csvw_keys.specs.KeyRules.{KeyRule, primary_rules, reference_rule, table_rules}
use Rattle.csvw_keys.proofs.ReferenceLemmas.{one_row_more}
use Rattle.csvw_keys.proofs.ServingLemmas.{no_more, primary_served, served_still, still_more}
use Rattle.csvw_keys.proofs.key_book.serve_tables.Goals as goal

pub loop-plan-init : goal.loop-plan-init
loop-plan-init c = record {
  more = no_more c.args.books.now.items;
  served = All-nil (λ (rule : KeyRule). is_served (purposes_of c.args.books.now.items) rule ≡ true);
}

pub loop-plan-preserved : goal.loop-plan-preserved
loop-plan-preserved c =
    let inv = c.loop-plan.invariant in
    let now = c.in_ok-serve_keys.ensures in
    let books = c.loop-plan.books.items in
    let more = c.serve_keys.new.books.items in
    let plans = c.args.plans.now in
    let plan = c.plan-item.result in
    let i = c.loop-plan.plan-index in
    let before = λ (rule : KeyRule). is_served (purposes_of books) rule ≡ true in
    let after = λ (rule : KeyRule). is_served (purposes_of more) rule ≡ true in
    let primary = primary_rules plan.number plan.primary_key in
    let references = map (reference_rule plan.number) plan.foreign_keys in
    let own = All-append after primary references (primary_served (purposes_of more) plan.number plan.primary_key) (rw c.as_slice.ensures at now.served) in
    record {
      more = still_more _ books more inv.more now.more;
      served = subst (All after) (sym (one_row_more table_rules plans i plan c.loop-plan-test.true c.plan-item.is))
          (All-append after (flat_map table_rules (take i plans)) (table_rules plan)
          (All-weaker before after (served_still books more now.more) _ inv.served) own);
    }

pub returns-clause-served : goal.returns-clause-served
returns-clause-served c =
    subst (λ plans. All (λ rule. is_served (purposes_of c.loop-plan.books.items) rule ≡ true) (flat_map table_rules plans))
    (take_all c.loop-plan.plan-index c.args.plans.now c.loop-plan-test.false) c.loop-plan.invariant.served
