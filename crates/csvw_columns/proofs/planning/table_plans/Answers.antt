-- One table more is planned.
use Rattle.std.proofs.Common.{◌≡◌, ◌∙◌, ◌+◌, ◌∷◌, length, ap, subst, arith}
use Rattle.std.specs.Prelude.{All}
use Rattle.std.specs.Vec.Iter.{into_iter_items}
use Rattle.std.proofs.lemmas.List.Elements.{All-tail}
use Rattle.csvw_description.specs.Plannable.{IsFitTable}
use Rattle.csvw_columns.specs.PlanOf.{table_plan}
use Rattle.csvw_columns.proofs.PlanLemmas.{one_longer, next_made}
use Rattle.csvw_columns.proofs.planning.table_plans.Goals as goal

pub loop-table-preserved : goal.loop-table-preserved
loop-table-preserved c =
    let group = c.args.group.now in
    let targets = c.args.known.now.targets in
    let plans = c.loop-table.plans.items in
    let more = c.push.new.self.items in
    let plan = c.in_ok-plan.plan in
    let table = c.in-Some.table in
    let before = into_iter_items c.loop-table.table-iterator in
    let after = into_iter_items c.next.new.self in
    let step : before ≡ table ∷ after = c.in-Some.ensures.steps.0 in
    let number : c.len.result ≡ length plans = c.len.ensures ∙ c.loop-table.plans.ok.0 in
    let this : plan ≡ table_plan targets group (length plans + 1) table = c.in_ok-plan.ensures ∙ ap (λ n. table_plan targets group (n + 1) table) number in
    let shorter = ap length step in
    let longer = one_longer plans more plan c.in_ok-push.ensures.items in
    record {
      made = next_made targets group plans more _ plan table before after c.loop-table.invariant.made step this c.in_ok-push.ensures.items;
      left = All-tail IsFitTable table after (subst (All IsFitTable) step c.loop-table.invariant.left);
      count = omega (arith, shorter, longer, c.loop-table.invariant.count);
    }
