-- The graph of a group of annotated tables, by the mode: `GraphOf` (csv2rdf, section 4.2).
use Rattle.std.specs.Prelude.{◌≡◌, ◌⊎◌, ℕ, List, slice_get, Some}
use Rattle.csvw_columns.specs.declared.plan.Plan.{Plan}
use Rattle.csvw_columns.specs.declared.plan.TablePlan.{TablePlan}
use Rattle.csvw_triples_core.specs.declared.mode.Mode.{Mode}
use Rattle.csvw_triples_core.specs.declared.term.Triple.{Triple}
use Rattle.csvw_triples_rows.specs.ModeGraph.{TableGraph}
use Rattle.csvw_triples.specs.Opening.{Opening}
use Rattle.csvw_group_laws.specs.Annotated.{Table}

-- the triples of the rows of all its tables, by the mode
abbrev pub RowsOf : Mode → List TablePlan → List Table → Triple → Type 0
RowsOf m plans tables x = (i : ℕ) × (plan : TablePlan) × (table : Table) × (slice_get plans i ≡ Some plan) × (slice_get tables i ≡ Some table)
    × TableGraph m plan.number (Some table.columns) table.rows x

-- the triples of the group and its tables, and those of their rows, by the mode
abbrev pub GraphOf : Mode → Plan → List Table → Triple → Type 0
GraphOf m plan tables x = Opening m plan x ⊎ RowsOf m plan.tables tables x
