-- One more character is read.
use Rattle.std.proofs.Common.{sym, ◌∙◌}
use Rattle.std.proofs.lemmas.Bool.{and_left, and_right}
use Rattle.csvw_template.proofs.StepLemmas.{kind_on}
use Rattle.csvw_template.proofs.names.kind_of.Goals as goal
use Rattle.csvw_template.proofs.names.kind_of.Goals.{else-is_end-via-then-is_end+else-is_modifier, else-is_end-via-else-is_end}

pub loop-b-preserved : goal.loop-b-preserved
loop-b-preserved c =
    kind_on c.args.text.now c.loop-b.b-index c.loop-b-test.true c.loop-b.place c.in-Some.next _ c.loop-b.invariant
    (elim c.else-is_end.branch [
      | else-is_end-via-then-is_end+else-is_modifier w ↦ and_right _ _ (sym w.is_modifier.ensures ∙ w.if-is_modifier.false)
      | else-is_end-via-else-is_end w ↦ and_left _ _ (sym c.is_end.ensures ∙ w.if-is_end.false)
    ])
    c.in-Some.ensures
