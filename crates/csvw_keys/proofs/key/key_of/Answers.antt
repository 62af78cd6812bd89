-- The cell of one column more.
use Rattle.std.proofs.Common.{◌∙◌, ◌++◌, ◌∷◌, [], sym, ap, take}
use Rattle.std.proofs.lemmas.List.{map_more}
use Rattle.csvw_keys.specs.Key.{key_cell_at, key_of}
use Rattle.csvw_keys.specs.declared.key.KeyCell.{KeyCell}
use Rattle.csvw_keys.proofs.key.key_of.Goals as goal

pub loop-column-preserved : goal.loop-column-preserved
loop-column-preserved c =
    let row = c.args.row.now in
    let columns = c.args.columns.now in
    let i = c.loop-column.column-index in
    c.in_ok-push.ensures.items ∙ ap (λ cells. cells ++ c.in_ok-cell.cell ∷ []) c.loop-column.invariant
    ∙ ap (λ (cell : KeyCell). key_of (take i columns) row ++ cell ∷ []) c.in_ok-cell.ensures
    ∙ sym (map_more (key_cell_at row) columns i 0 c.loop-column-test.true)
