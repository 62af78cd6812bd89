-- Bound links are the links of the row's cells.
use Rattle.std.proofs.Common.{◌≡◌, ◌∙◌, ℕ, zero, suc, List, sym, length}
use Rattle.std.proofs.lemmas.List.{length-map}
use Rattle.csvw_template.specs.declared.vars.Var.{Var}
use Rattle.csvw_columns_core.specs.declared.column.Column.{Column}
use Rattle.csvw_columns_core.specs.declared.columns.Columns.{Columns}
use Rattle.csvw_annotate.specs.Bindings.{row_values}
use Rattle.csvw_annotate.specs.BoundLinks.{BoundLinksAreLinks, link_in, link_of_column, template_of}
use Rattle.csvw_annotate.specs.Links.{link_by}
use Rattle.csvw_annotate.specs.MadeAt.{IsMadeAt, IsMadeBefore}
use Rattle.csvw_annotate.specs.declared.bound_link.Which.{Which}
use Rattle.csvw_annotate.specs.declared.bound_link.Which.TheVariants.{About}
use Rattle.csvw_annotate.specs.declared.links.Made.{Made}
use Rattle.csvw_annotate.specs.declared.numbers.RowNumbers.{RowNumbers}
use Rattle.csvw_annotate.specs.declared.row.AnnCell.{AnnCell}
use Rattle.csvw_annotate.specs.Linked.{values_of}
use Rattle.csvw_annotate.specs.LinksAt.{IsAboutAt, IsAboutBefore, variables_of}

module _ (law : BoundLinksAreLinks) (columns : Columns) (row : RowNumbers) (now : List AnnCell) (places : length now ≡ length columns.columns) where
  abbrev pub the_values : List Var
  the_values = row_values row (values_of now)

  same_length : length (values_of now) ≡ length columns.columns
  same_length = length-map now (λ cell. cell.value) ∙ places

  by_law : (which : Which) (column : Column)
      → link_in columns.url the_values (link_of_column which columns column)
      ≡ link_by columns.url (variables_of columns row now column) (template_of which column.properties)
  by_law which column = law columns.url row columns.columns (values_of now) same_length column (template_of which column.properties)

  pub before_made : (place : ℕ) (made : Made) → IsAboutBefore columns row now place made → IsMadeBefore columns the_values place made
  before_made zero made h = h
  before_made (suc i) made h = λ column at. h column at ∙ sym (by_law About column)

  pub about_made : (place : ℕ) (made : Made) → IsMadeAt About columns the_values place made → IsAboutAt columns row now place made
  about_made place made h column at = h column at ∙ by_law About column
