-- One more name is expanded.
use Rattle.std.proofs.Common.{ℕ, List, string_bytes, refl}
use Rattle.csvw_template.specs.Expand.{value}
use Rattle.csvw_template.specs.Variables.{lookup}
use Rattle.csvw_template.proofs.SignedLemmas.{goes_on, stays}
use Rattle.csvw_template.proofs.expand.push_values.Goals as goal
use Rattle.csvw_template.proofs.expand.push_values.Goals.{then-branch, else-branch}

pub loop-name-preserved-in-Some : goal.loop-name-preserved-in-Some
loop-name-preserved-in-Some g c =
    let gives = λ (n : List ℕ). value c.args.operator (lookup (g.S.Scope.variables c.args.scope.now) n) in
    let text = rw c.as_str-name.ensures at c.in-Some.ensures in
    goes_on c.args.operator gives c.args.names.now c.loop-name.name-index c.name-item.result c.loop-name-test.true c.name-item.is
    (string_bytes c.args.out.now) c.loop-name.is_first (string_bytes c.loop-name.out) (string_bytes c.push_one.new.out) c.loop-name.invariant
    (rw text (refl, c.in_ok-push_one.ensures))

pub loop-name-preserved : goal.loop-name-preserved
loop-name-preserved g c =
    let gives = λ (n : List ℕ). value c.args.operator (lookup (g.S.Scope.variables c.args.scope.now) n) in
    elim c.if-branch.branch [
      | then-branch w ↦
          let a = rw (w.if-branch.true, c.in_ok-var.ensures, c.as_str-name.ensures) at c.in_ok-push_value.ensures in
          rw w.is_first-is (goes_on c.args.operator gives c.args.names.now c.loop-name.name-index c.name-item.result c.loop-name-test.true
          c.name-item.is (string_bytes c.args.out.now) c.loop-name.is_first (string_bytes c.loop-name.out)
          (string_bytes c.push_value.new.out) c.loop-name.invariant a)
      | else-branch w ↦
          let a = rw (w.if-branch.false, c.in_ok-var.ensures, c.as_str-name.ensures) at c.in_ok-push_value.ensures in
          rw w.is_first-is (stays c.args.operator gives c.args.names.now c.loop-name.name-index c.name-item.result c.loop-name-test.true
          c.name-item.is (string_bytes c.args.out.now) c.loop-name.is_first (string_bytes c.loop-name.out)
          (string_bytes c.push_value.new.out) c.loop-name.invariant a)
    ]
