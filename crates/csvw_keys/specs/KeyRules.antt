-- The keys of a plan, and the faults of the rows of its tables by them: `rules_of`, `key_faults`, `AreKeyFaults` (Metadata
-- Vocabulary for Tabular Data, sections 5.5.1 and 5.5.2; Model for Tabular Data, section 6.6).
use Rattle.std.specs.Prelude.{ℕ, nat_eq, bytes_eq, List, [], ◌∷◌, ◌++◌, Bool, false, ◌&&◌, flat_map, map, if◌then◌else◌}
use Rattle.std.specs.List.{list_any}
use Rattle.std.specs.List.Sorted.{IsPermutation, IsSorted}
use Rattle.csvw_annotate.specs.declared.row.Row.{Row}
use Rattle.csvw_columns.specs.declared.plan.ForeignKeyPlan.{ForeignKeyPlan}
use Rattle.csvw_columns.specs.declared.plan.Plan.{Plan}
use Rattle.csvw_columns.specs.declared.plan.TablePlan.{TablePlan}
use Rattle.csvw_keys.specs.Duplicates.{duplicate_faults}
use Rattle.csvw_keys.specs.References.{reference_faults}
use Rattle.csvw_report.specs.Order.{fault_cmp}
use Rattle.csvw_fault.specs.declared.fault.Fault.{Fault}

-- A key of the table of a number: its primary key in the columns of these numbers, or a reference from these to the columns of a table.
-- `Recorded` is not a key. It says that the rows of a table are recorded with their keys in these columns.
pub data KeyRule : Type 0 where
  Unique : ℕ → List ℕ → KeyRule
  Refers : ℕ → List ℕ → ℕ → List ℕ → KeyRule
  Recorded : ℕ → List ℕ → KeyRule

-- a rule that is a key
abbrev pub key_in : KeyRule → List KeyRule
key_in (Unique table columns) = Unique table columns ∷ []
key_in (Refers table columns referenced_table referenced) = Refers table columns referenced_table referenced ∷ []
key_in (Recorded table columns) = []

-- those of the rules that are keys
abbrev pub keys_in : List KeyRule → List KeyRule
keys_in rules = flat_map key_in rules

-- A table with no columns in its primary key has no primary key.
abbrev pub primary_rules : ℕ → List ℕ → List KeyRule
primary_rules table [] = []
primary_rules table (c ∷ cs) = Unique table (c ∷ cs) ∷ []

abbrev pub reference_rule : ℕ → ForeignKeyPlan → KeyRule
reference_rule table key = Refers table key.columns key.table key.referenced

-- the primary key of a table, then its foreign keys
abbrev pub table_rules : TablePlan → List KeyRule
table_rules plan = primary_rules plan.number plan.primary_key ++ map (reference_rule plan.number) plan.foreign_keys

-- the keys of all tables
abbrev pub rules_of : Plan → List KeyRule
rules_of plan = flat_map table_rules plan.tables

-- what is recorded of the rows of tables for a key
abbrev pub recorded_for : KeyRule → List KeyRule
recorded_for (Unique table columns) = Recorded table columns ∷ []
recorded_for (Refers table columns referenced_table referenced) = Recorded table columns ∷ Recorded referenced_table referenced ∷ []
recorded_for (Recorded table columns) = []

-- what is recorded of them for all keys
abbrev pub recorded_rules : List KeyRule → List KeyRule
recorded_rules rules = flat_map recorded_for rules

-- by this rule the rows of a table are recorded with their keys in these columns
abbrev pub is_recorded_by : ℕ → List ℕ → KeyRule → Bool
is_recorded_by table columns (Unique t cs) = false
is_recorded_by table columns (Refers t cs referenced_table referenced) = false
is_recorded_by table columns (Recorded t cs) = nat_eq t table && bytes_eq cs columns

-- by one of the rules they are
abbrev pub is_recorded : ℕ → List ℕ → List KeyRule → Bool
is_recorded table columns rules = list_any (is_recorded_by table columns) rules

-- the faults of the rows of whole tables by a key
abbrev pub rule_faults : (ℕ → List Row) → KeyRule → List Fault
rule_faults tables (Unique table columns) = duplicate_faults table columns (tables table)
rule_faults tables (Refers table columns referenced_table referenced) =
    reference_faults table columns (tables table) referenced (tables referenced_table)
rule_faults tables (Recorded table columns) = []

-- the faults of them by all keys
abbrev pub key_faults : List KeyRule → (ℕ → List Row) → List Fault
key_faults rules tables = flat_map (rule_faults tables) rules

-- The list of the faults in the order of reports. Each fault occurs as often as it has causes. There is one such list.
pub record AreKeyFaults (rules : List KeyRule) (tables : ℕ → List Row) (faults : List Fault) : Type 0 where
  pub same : IsPermutation (key_faults rules tables) faults
  pub sorted : IsSorted fault_cmp faults

-- the faults of the rows of a table by its primary key
abbrev pub duplicates_of : ℕ → (ℕ → List Row) → List KeyRule → List Fault
duplicates_of n tables [] = []
duplicates_of n tables (Unique table columns ∷ rules) =
    if nat_eq table n then duplicate_faults table columns (tables table) else duplicates_of n tables rules
duplicates_of n tables (Refers table columns referenced_table referenced ∷ rules) = duplicates_of n tables rules
duplicates_of n tables (Recorded table columns ∷ rules) = duplicates_of n tables rules
