-- The rows before, and one more or none.
use Rattle.std.proofs.Common.{◌≡◌, refl, rules, add-zero, sym, ◌∙◌}
use Rattle.csvw_split.proofs.FileLemmas.{many_more}
use Rattle.csvw_split.proofs.file.pass.Goals as goal

pub returns-in-Ok-false-clause-count : goal.returns-in-Ok-false-clause-count
returns-in-Ok-false-clause-count c =
    let one = rw c.in-Ok-false.field-0-test at c.in-Ok-false.ensures in
    many_more _ _ _ _ 0 _ c.loop-count.invariant.many one.1 (sym (add-zero c.loop-count.count))

pub loop-count-preserved : goal.loop-count-preserved
loop-count-preserved c =
    let one = rw c.in-Ok-true.field-0-test at c.in-Ok-true.ensures in
    record { ended = one.0 ∙ c.loop-count.invariant.ended; many = many_more _ _ _ _ 1 _ c.loop-count.invariant.many one.1 refl }

pub returns-clause-count : goal.returns-clause-count
returns-clause-count c = let at : c.loop-count.count ≡ 18446744073709551615 = search rules in rw (← at) c.loop-count.invariant.many
