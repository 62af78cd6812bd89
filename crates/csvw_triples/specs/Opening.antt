-- The graph of a group and its tables before any row, by the mode: `Opening` (csv2rdf, section 4.2).
use Rattle.std.specs.Prelude.{◌≡◌, ◌⊎◌, ℕ, ◌+◌, List, ◌∷◌, ◌++◌, false}
use Rattle.csvw_columns.specs.declared.plan.Plan.{Plan}
use Rattle.csvw_columns.specs.declared.plan.TablePlan.{TablePlan}
use Rattle.csvw_triples_core.specs.declared.mode.Mode.{Mode}
use Rattle.csvw_triples_core.specs.declared.mode.Mode.TheVariants as mode
use Rattle.csvw_triples_core.specs.declared.term.Node.{Node}
use Rattle.csvw_triples_core.specs.declared.term.Triple.{Triple}
use Rattle.csvw_triples.specs.Annotations.{annotations}
use Rattle.csvw_triples.specs.NoteGraph.{Notes}
use Rattle.csvw_triples.specs.OpeningTriples.{group_node, node_of, group_triple, member_triple, class_triple, url_triple, group_blanks, tables_blanks}

-- a triple of a table: that its group has it, its class, its URL, or one of its annotations, with n blank nodes before them
abbrev pub IsOfTable : Node → ℕ → TablePlan → Triple → Type 0
IsOfTable group n table x =
    (x ≡ member_triple group table) ⊎ ((x ≡ class_triple table) ⊎ ((x ≡ url_triple table) ⊎ Notes x (node_of table) n (annotations table.notes)))

-- a triple of a table that is not suppressed; the blank nodes of the tables before it come before its own
abbrev pub IsOfTables : Node → ℕ → List TablePlan → Triple → Type 0
IsOfTables group n tables x =
    (before : List TablePlan) × (table : TablePlan) × (after : List TablePlan)
    × (tables ≡ before ++ table ∷ after) × (table.suppressed ≡ false) × IsOfTable group (n + tables_blanks before) table x

-- a triple of the group: its class, or one of its annotations
abbrev pub IsOfGroup : Node → Plan → Triple → Type 0
IsOfGroup group plan x = (x ≡ group_triple group) ⊎ Notes x group 0 (annotations plan.notes)

-- in standard mode: the triples of the group, and of each table that is not suppressed
abbrev pub StandardOpening : Plan → Triple → Type 0
StandardOpening plan x =
    IsOfGroup (group_node plan.id) plan x ⊎ IsOfTables (group_node plan.id) (group_blanks plan) plan.tables x

-- by the mode: Validate and Minimal have none
abbrev pub Opening : Mode → Plan → Triple → Type 0
Opening mode.Validate plan x = ⊥
Opening mode.Minimal plan x = ⊥
Opening mode.Standard plan x = StandardOpening plan x
