-- One cell more.
use Rattle.std.proofs.Common.{◌∙◌, ◌∷◌, ◌++◌, [], ap, sym, List, ℕ, take}
use Rattle.csvw_rows.specs.RowValue.{row_of}
use Rattle.csvw_engine_core.proofs.Lists.{take_next}
use Rattle.csvw_engine_core.proofs.head.header_row.Goals as goal

pub loop-i-preserved : goal.loop-i-preserved
loop-i-preserved c =
    c.in_ok-push.ensures.items ∙ (ap (λ (xs : List (List ℕ)). xs ++ c.in_ok-copied.field-0 ∷ []) c.loop-i.invariant
    ∙ (ap (λ (x : List ℕ). take c.loop-i.i (row_of c.args.raw.now).fields ++ x ∷ []) c.in_ok-copied.ensures
    ∙ sym (take_next (row_of c.args.raw.now).fields c.loop-i.i c.field.result.now c.field.ensures)))
