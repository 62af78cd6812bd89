-- One more column.
use Rattle.std.proofs.Common.{◌∙◌, ◌++◌, ◌∷◌, [], sym, ap, add-one}
use Rattle.csvw_columns_core.specs.HeaderColumns.{titled_column, titled_columns}
use Rattle.csvw_description.specs.declared.column.ColumnDescription.{ColumnDescription}
use Rattle.csvw_columns_core.proofs.header_columns.titled_columns.Goals as goal

pub loop-i-preserved : goal.loop-i-preserved
loop-i-preserved c =
    let rows = c.args.rows.now in
    let i = c.loop-i.i in
    c.in_ok-push.ensures.items ∙ ap (λ cs. cs ++ c.titled_column.result ∷ []) c.loop-i.invariant
    ∙ ap (λ (d : ColumnDescription). titled_columns rows i ++ d ∷ []) (c.titled_column.ensures ∙ ap titled_column c.in_ok-titles.ensures)
    ∙ ap (titled_columns rows) (sym (add-one i))
