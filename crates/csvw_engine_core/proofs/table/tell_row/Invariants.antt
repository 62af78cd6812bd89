-- The faults so far, with those of the cells that are left, are the faults of all cells.
use Rattle.std.proofs.Common.{◌≡◌, ◌++◌, flat_map}
use Rattle.std.specs.List.{zip}
use Rattle.csvw_columns_core.specs.declared.column.Column.{Column}
use Rattle.csvw_annotate.specs.declared.row.AnnCell.{AnnCell}
use Rattle.csvw_engine_core.specs.Faults.{cell_faults, place_of, row_faults}
use Rattle.csvw_engine_core.proofs.table.tell_row.Given as goal

abbrev pub invariant-loop-column : goal.invariant-loop-column
invariant-loop-column l =
    l.faults ++ flat_map (λ (p : Column × AnnCell). cell_faults (place_of l.table l.row p.0) p.1.faults)
    (zip l.column-iterator.a.rest.now l.column-iterator.b.rest.now)
    ≡ l.initial.faults ++ row_faults l.table l.columns l.row
