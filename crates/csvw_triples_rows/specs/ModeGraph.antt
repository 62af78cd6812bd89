-- The graph of a row and of all rows of a table, by the mode: `RowGraph`, `TableGraph` (csv2rdf, section 4.2).
use Rattle.std.specs.Prelude.{ℕ, List, Option}
use Rattle.csvw_columns_core.specs.declared.columns.Columns.{Columns}
use Rattle.csvw_annotate.specs.declared.row.Row.{Row}
use Rattle.csvw_triples_core.specs.declared.mode.Mode.{Mode}
use Rattle.csvw_triples_core.specs.declared.mode.Mode.TheVariants as mode
use Rattle.csvw_triples_core.specs.declared.term.Triple.{Triple}
use Rattle.csvw_triples_rows.specs.Graph.{MinimalRow, Minimal}
use Rattle.csvw_triples_rows.specs.Standard.{StandardRow, StandardRows}

-- the triples of a row of table t; mode Validate has none
abbrev pub RowGraph : Mode → ℕ → Columns → Row → Triple → Type 0
RowGraph mode.Validate t columns row x = ⊥
RowGraph mode.Minimal t columns row x = MinimalRow t columns row x
RowGraph mode.Standard t columns row x = StandardRow t columns row x

-- the triples of the rows of table t; a table without columns has none
abbrev pub TableGraph : Mode → ℕ → Option Columns → List Row → Triple → Type 0
TableGraph mode.Validate t columns rows x = ⊥
TableGraph mode.Minimal t columns rows x = Minimal t columns rows x
TableGraph mode.Standard t columns rows x = StandardRows t columns rows x
