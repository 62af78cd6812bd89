-- The triples of a group and its tables, in their order, by the mode: `opening` (csv2rdf, section 4.2).
use Rattle.std.specs.Prelude.{ℕ, ◌+◌, List, [], ◌∷◌, ◌++◌, Option, Some, None, if◌then◌else◌}
use Rattle.csvw_iri.specs.Link.{iri_of}
use Rattle.csvw_columns.specs.declared.plan.Plan.{Plan}
use Rattle.csvw_columns.specs.declared.plan.TablePlan.{TablePlan}
use Rattle.csvw_triples_core.specs.declared.mode.Mode.{Mode}
use Rattle.csvw_triples_core.specs.declared.mode.Mode.TheVariants as mode
use Rattle.csvw_triples_core.specs.declared.origin.Origin.TheVariants as origin
use Rattle.csvw_triples_core.specs.declared.term.Node.{Node}
use Rattle.csvw_triples_core.specs.declared.term.Node.TheVariants as node
use Rattle.csvw_triples_core.specs.declared.term.Term.TheVariants as term
use Rattle.csvw_triples_core.specs.declared.term.Triple.{Triple}
use Rattle.csvw_triples_rows.specs.RowTriples.{triple}
use Rattle.csvw_triples_rows.specs.StandardTriples.{table_node, object_of}
use Rattle.csvw_triples_rows.specs.CsvwVocabulary.{rdf_type, group_class, table_class, table_of_group, csvw_url}
use Rattle.csvw_triples.specs.Annotations.{annotations}
use Rattle.csvw_triples.specs.Blanks.{blanks}
use Rattle.csvw_triples.specs.NotesTriples.{notes_triples}

-- a group: its `@id`, else its blank node
abbrev pub group_node : Option (List ℕ) → Node
group_node None = node.Blank origin.Group
group_node (Some id) = node.Named id

abbrev pub node_of : TablePlan → Node
node_of table = table_node table.number table.id

-- the class of the group
abbrev pub group_triple : Node → Triple
group_triple group = triple group rdf_type (term.Named group_class)

-- the group has the table
abbrev pub member_triple : Node → TablePlan → Triple
member_triple group table = triple group table_of_group (object_of (node_of table))

-- the class of the table
abbrev pub class_triple : TablePlan → Triple
class_triple table = triple (node_of table) rdf_type (term.Named table_class)

-- the URL of the table
abbrev pub url_triple : TablePlan → Triple
url_triple table = triple (node_of table) csvw_url (term.Named (iri_of table.url))

abbrev pub about_table : Node → TablePlan → List Triple
about_table group table = member_triple group table ∷ class_triple table ∷ url_triple table ∷ []

-- the triples of the table's annotations, with n blank nodes before them
abbrev pub notes_of : ℕ → TablePlan → List Triple
notes_of n table = notes_triples (node_of table) n (annotations table.notes)

-- the triples of a table; a suppressed table has none
abbrev pub table_triples : Node → ℕ → TablePlan → List Triple
table_triples group n table = if table.suppressed then [] else about_table group table ++ notes_of n table

-- how many blank nodes the annotations of a table have
abbrev pub table_blanks : TablePlan → ℕ
table_blanks table = if table.suppressed then 0 else blanks (annotations table.notes)

abbrev pub tables_blanks : List TablePlan → ℕ
tables_blanks [] = 0
tables_blanks (table ∷ tables) = table_blanks table + tables_blanks tables

-- the triples of tables, whose blank nodes are numbered from table to table
abbrev pub tables_triples : Node → ℕ → List TablePlan → List Triple
tables_triples group n [] = []
tables_triples group n (table ∷ tables) = table_triples group n table ++ tables_triples group (n + table_blanks table) tables

abbrev pub group_blanks : Plan → ℕ
group_blanks plan = blanks (annotations plan.notes)

-- the class of the group and the triples of its annotations, with n blank nodes before them
abbrev pub about_group : Node → ℕ → Plan → List Triple
about_group group n plan = group_triple group ∷ notes_triples group n (annotations plan.notes)

-- the triples of a group and its tables in standard mode
abbrev pub standard_opening : Plan → List Triple
standard_opening plan = about_group (group_node plan.id) 0 plan ++ tables_triples (group_node plan.id) (group_blanks plan) plan.tables

-- by the mode: Validate and Minimal have no opening
abbrev pub opening : Mode → Plan → List Triple
opening mode.Validate plan = []
opening mode.Minimal plan = []
opening mode.Standard plan = standard_opening plan
