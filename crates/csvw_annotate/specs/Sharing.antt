-- Columns whose cells have the same about links.
use Rattle.std.specs.Prelude.{◌≡◌, ℕ, List, ◌||◌, Bool, false, bytes_eq, codes}
use Rattle.std.specs.List.{list_any}
use Rattle.url.specs.Parts.{Parts}
use Rattle.csvw_template.specs.declared.part.Part.{Part}
use Rattle.csvw_template.specs.declared.part.Part.TheVariants.{Literal, Expression}
use Rattle.csvw_columns_core.specs.declared.column.Column.{Column}
use Rattle.csvw_annotate.specs.BoundLinks.{bound_link}

-- the variables of which each cell of a row has its own
abbrev pub is_of_column : List ℕ → Bool
is_of_column name = bytes_eq (codes "_column") name || bytes_eq (codes "_sourceColumn") name || bytes_eq (codes "_name") name

abbrev pub names_column : Part → Bool
names_column (Literal text) = false
names_column (Expression operator names) = list_any is_of_column names

-- the about links of the cells of two columns of a table are the same
abbrev pub ShareAbout : Column → Column → Type 0
ShareAbout one other =
    (base : Parts) (columns : List Column) → bound_link base columns one one.properties.about_url ≡ bound_link base columns other other.properties.about_url
