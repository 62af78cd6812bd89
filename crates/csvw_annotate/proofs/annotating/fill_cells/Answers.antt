-- One more cell.
use Rattle.std.proofs.Common.{take, arith, rules}
use Rattle.std.proofs.lemmas.List.{take_more_set}
use Rattle.csvw_rows.specs.RowValue.{row_of}
use Rattle.csvw_annotate.proofs.CellsLemmas.{sound_at, one_cell}
use Rattle.csvw_annotate.proofs.annotating.fill_cells.Goals as goal

pub fill_cell-requires : goal.fill_cell-requires
fill_cell-requires c = sound_at c.args.columns.now c.loop-i.i c.index-columns-i.result (omega arith) c.index-columns-i.is c.requires.sound

pub loop-i-preserved : goal.loop-i-preserved
loop-i-preserved c =
    let i = c.loop-i.invariant in
    record {
      places = search rules;
      filled = one_cell c.args.columns.now (row_of c.args.row.now).fields c.loop-i.i c.index-columns-i.result c.field_at.result.now
          c.fill_cell.new.cell (take c.loop-i.i c.loop-i.cells) _
          (omega arith) c.index-columns-i.is c.field_at.ensures c.in_ok-fill_cell.ensures i.filled
          (take_more_set c.loop-i.cells c.loop-i.i c.fill_cell.new.cell (omega (arith, i.places)));
    }
