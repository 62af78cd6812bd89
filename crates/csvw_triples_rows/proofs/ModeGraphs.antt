-- The triples of rows are their graph in each mode.
use Rattle.std.proofs.Common.{List, [], ◌∷◌, ◌↔◌, ℕ, Some, Contains}
use Rattle.std.specs.Prelude.{flat_map}
use Rattle.csvw_columns_core.specs.declared.columns.Columns.{Columns}
use Rattle.csvw_annotate.specs.declared.row.Row.{Row}
use Rattle.csvw_triples_core.specs.declared.mode.Mode.{Mode}
use Rattle.csvw_triples_core.specs.declared.mode.Mode.TheVariants as mode
use Rattle.csvw_triples_core.specs.declared.term.Triple.{Triple}
use Rattle.csvw_triples_rows.specs.ModeGraph.{RowGraph, TableGraph}
use Rattle.csvw_triples_rows.specs.ModeTriples.{row_triples}
use Rattle.csvw_triples_rows.proofs.Graphs.{none_in, minimal_row, minimal_rows}
use Rattle.csvw_triples_rows.proofs.StandardGraphs.{standard_row, standard_rows}

pub row_graph : (m : Mode) (t : ℕ) (columns : Columns) (row : Row) (x : Triple) → Contains (row_triples m t columns row) x ↔ RowGraph m t columns row x
row_graph mode.Validate t columns row x = (λ h. none_in x h, λ h. absurd h)
row_graph mode.Minimal t columns row x = minimal_row t columns row x
row_graph mode.Standard t columns row x = standard_row t columns row x

-- no row has triples in validation
none_of : (t : ℕ) (columns : Columns) (rows : List Row) (x : Triple) → Contains (flat_map (row_triples mode.Validate t columns) rows) x → ⊥
none_of t columns [] x h = none_in x h
none_of t columns (row ∷ rows) x h = none_of t columns rows x h

pub table_graph : (m : Mode) (t : ℕ) (columns : Columns) (rows : List Row) (x : Triple)
    → Contains (flat_map (row_triples m t columns) rows) x ↔ TableGraph m t (Some columns) rows x
table_graph mode.Validate t columns rows x = (λ h. none_of t columns rows x h, λ h. absurd h)
table_graph mode.Minimal t columns rows x = minimal_rows t columns rows x
table_graph mode.Standard t columns rows x = standard_rows t columns rows x
