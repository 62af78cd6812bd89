-- The triples, the faults and the annotated rows of pieces, one after the other: `PiecesJoin`.
use Rattle.std.specs.Prelude.{◌≡◌, ◌≤◌, ℕ, List, ◌++◌, length, Option}
use Rattle.csvw_records.specs.RowValue.{Given}
use Rattle.csvw_columns_core.specs.declared.columns.Columns.{Columns}
use Rattle.csvw_columns.specs.declared.plan.TablePlan.{TablePlan}
use Rattle.csvw_annotate.specs.declared.row.Row.{Row}
use Rattle.csvw_triples_core.specs.declared.mode.Mode.{Mode}
use Rattle.csvw_engine_core.specs.Annotated.{AreAnnotated, data_rows, header_count}
use Rattle.csvw_engine_core.specs.Faults.{table_faults}
use Rattle.csvw_engine_core.specs.Tables.{table_triples}

pub record PiecesJoin : Type 0 where
  pub triples : (mode : Mode) (table : ℕ) (columns : Option Columns) (rows more : List Row)
      → table_triples mode table columns (rows ++ more) ≡ table_triples mode table columns rows ++ table_triples mode table columns more
  pub faults : (table : ℕ) (columns : Option Columns) (rows more : List Row)
      → table_faults table columns (rows ++ more) ≡ table_faults table columns rows ++ table_faults table columns more
  -- the annotated rows of a table are those of its front, and then those of the rows that follow
  pub rows : (plan : TablePlan) (columns : Columns) (given raws : List Given) (rows more : List Row) → header_count plan ≤ length given
      → AreAnnotated columns (data_rows plan given) rows → AreAnnotated columns raws more
      → AreAnnotated columns (data_rows plan (given ++ raws)) (rows ++ more)
