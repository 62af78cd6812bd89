-- The books of one table more.
use Rattle.std.proofs.Common.{◌∙◌, ◌++◌, sym, ap}
use Rattle.csvw_keys.specs.KeyRules.{table_rules}
use Rattle.csvw_keys.proofs.ReferenceLemmas.{one_row_more}
use Rattle.csvw_keys.proofs.key_book.books_of.Goals as goal

pub loop-plan-preserved : goal.loop-plan-preserved
loop-plan-preserved c =
    let plan = c.plan-item.result in
    record {
      rules = c.in_ok-push_table.ensures.rules ∙ ap (λ rules. rules ++ table_rules plan) c.loop-plan.invariant.rules
          ∙ sym (one_row_more table_rules c.args.plans.now c.loop-plan.plan-index plan c.loop-plan-test.true c.plan-item.is);
      keeps = c.in_ok-push_table.ensures.keeps c.loop-plan.invariant.keeps;
    }
