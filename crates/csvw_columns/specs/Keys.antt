-- Keys as numbers of columns and tables (Metadata Vocabulary for Tabular Data, sections 5.5.1 and 5.5.2).
use Rattle.std.specs.Prelude.{◌≡◌, ℕ, ◌+◌, ◌<◌, List, [], length, map, Option, Some, None, unwrap_or, option_map, bytes_eq, All}
use Rattle.std.specs.List.{position_from, slice_index_or}
use Rattle.csvw_description.specs.declared.foreign_key.ForeignKey.{ForeignKey}
use Rattle.csvw_columns.specs.declared.plan.ForeignKeyPlan.{ForeignKeyPlan}
use Rattle.csvw_columns.specs.declared.plan.TablePlan.{TablePlan}

-- the place, from 0, of the first text that equals this one
abbrev pub place_of : List (List ℕ) → List ℕ → Option ℕ
place_of texts text = position_from (λ t. bytes_eq t text) 0 texts

-- its number, from 1, or 0 if there is none
abbrev pub number_at : Option ℕ → ℕ
number_at place = unwrap_or (option_map (λ i. i + 1) place) 0

-- the numbers of the names of a key
abbrev pub numbers_of : List (List ℕ) → List (List ℕ) → List ℕ
numbers_of names key = map (λ name. number_at (place_of names name)) key

-- the names of the columns of the table at this place
abbrev pub names_at : List (List (List ℕ)) → Option ℕ → List (List ℕ)
names_at names None = []
names_at names (Some i) = slice_index_or names i []

-- a foreign key of a table with columns of these names, among the tables of these URLs and names
abbrev pub foreign_key : List (List ℕ) → List (List (List ℕ)) → List (List ℕ) → ForeignKey → ForeignKeyPlan
foreign_key urls names own key = record {
  columns = numbers_of own key.columns;
  table = number_at (place_of urls key.resource);
  referenced = numbers_of (names_at names (place_of urls key.resource)) key.referenced;
}

-- what the key names exists, and its sides are equally long
pub record IsResolved (key : ForeignKeyPlan) : Type 0 where
  pub columns : All (λ n. 0 < n) key.columns
  pub table : 0 < key.table
  pub referenced : All (λ n. 0 < n) key.referenced
  pub sides : length key.columns ≡ length key.referenced

-- what the keys of a table name exists
pub record AreResolved (plan : TablePlan) : Type 0 where
  pub primary_key : All (λ n. 0 < n) plan.primary_key
  pub foreign_keys : All IsResolved plan.foreign_keys
