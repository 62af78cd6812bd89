-- The last header row.
use Rattle.std.proofs.Common.{◌∙◌, ◌∷◌, ◌++◌, [], ap, sym}
use Rattle.csvw_rows.specs.RowValue.{row_of}
use Rattle.csvw_columns_core.specs.declared.header.HeaderRow.{HeaderRow}
use Rattle.csvw_engine_core.proofs.Headers.{takes_last}
use Rattle.csvw_engine_core.proofs.head.Head.take.Goals as goal

pub returns-then-len-plan : goal.returns-then-len-plan
returns-then-len-plan c =
    takes_last c.args.plan.now (row_of c.args.raw.now) c.args.self.now _ c.settle.new.self c.settle.result
    (c.in_ok-push.ensures.ok ∙ ap (λ (h : HeaderRow). c.args.self.now.rows ++ h ∷ []) c.in_ok-header_row.ensures)
    (sym c.len.ensures ∙ c.if-len-plan.true) c.settle.ensures
