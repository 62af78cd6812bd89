-- One more binding is expanded, or is too long.
use Rattle.std.proofs.Common.{arith, string_bytes}
use Rattle.csvw_template.specs.declared.bound.Binding.{Binding}
use Rattle.csvw_template.specs.Bound.{stands_for}
use Rattle.csvw_template.specs.Expand.{value}
use Rattle.csvw_template.proofs.SignedLemmas.{goes_on, stays}
use Rattle.csvw_template.proofs.WithinLemmas.{plain_no_longer, value_within}
use Rattle.csvw_template.proofs.bound.push_bindings.Goals as goal
use Rattle.csvw_template.proofs.bound.push_bindings.Goals.{then-branch, else-branch}

pub loop-binding-preserved : goal.loop-binding-preserved
loop-binding-preserved g c =
    let gives = λ (b : Binding). value c.args.operator (stands_for (g.V.Values.values c.args.values.now) b) in
    elim c.if-branch.branch [
      | then-branch w ↦
          let a = rw w.if-branch.true at c.in_ok-push_binding.ensures in
          rw w.is_first-is (goes_on c.args.operator gives c.args.bindings.now c.loop-binding.binding-index c.binding-item.result
          c.loop-binding-test.true c.binding-item.is (string_bytes c.args.out.now) c.loop-binding.is_first (string_bytes c.loop-binding.out)
          (string_bytes c.push_binding.new.out) c.loop-binding.invariant a)
      | else-branch w ↦
          let a = rw w.if-branch.false at c.in_ok-push_binding.ensures in
          rw w.is_first-is (stays c.args.operator gives c.args.bindings.now c.loop-binding.binding-index c.binding-item.result
          c.loop-binding-test.true c.binding-item.is (string_bytes c.args.out.now) c.loop-binding.is_first (string_bytes c.loop-binding.out)
          (string_bytes c.push_binding.new.out) c.loop-binding.invariant a)
    ]

pub returns-then-is_past : goal.returns-then-is_past
returns-then-is_past g c =
    let binding = c.binding-item.result in
    let var = stands_for (g.V.Values.values c.args.values.now) binding in
    let gives = λ (b : Binding). value c.args.operator (stands_for (g.V.Values.values c.args.values.now) b) in
    let within = value_within c.args.operator gives c.args.bindings.now c.loop-binding.binding-index binding c.loop-binding-test.true c.binding-item.is
    (string_bytes c.args.out.now) c.loop-binding.is_first (string_bytes c.loop-binding.out) c.loop-binding.invariant in
    let encoded = plain_no_longer c.args.operator var in
    let past = c.is_past.ensures c.if-is_past.true in
    omega (arith, c.len.ensures)
