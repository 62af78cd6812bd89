-- The triples of a row, by the mode: `row_triples` (csv2rdf, section 4.2).
use Rattle.std.specs.Prelude.{ℕ, List, []}
use Rattle.csvw_columns_core.specs.declared.columns.Columns.{Columns}
use Rattle.csvw_annotate.specs.declared.row.Row.{Row}
use Rattle.csvw_triples_core.specs.declared.mode.Mode.{Mode}
use Rattle.csvw_triples_core.specs.declared.mode.Mode.TheVariants as mode
use Rattle.csvw_triples_core.specs.declared.term.Triple.{Triple}
use Rattle.csvw_triples_rows.specs.RowTriples.{minimal_triples}
use Rattle.csvw_triples_rows.specs.StandardTriples.{standard_triples}

-- the triples of a row of table t; mode Validate has none
abbrev pub row_triples : Mode → ℕ → Columns → Row → List Triple
row_triples mode.Validate t columns row = []
row_triples mode.Minimal t columns row = minimal_triples t columns row
row_triples mode.Standard t columns row = standard_triples t columns row
