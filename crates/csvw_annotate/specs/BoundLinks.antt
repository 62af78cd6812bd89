-- Links by templates whose names are bound. They equal the links by the templates.
use Rattle.std.specs.Prelude.{◌≡◌, List, [], ◌∷◌, Option, Some, None, map, length, if◌then◌else◌}
use Rattle.url.specs.Parts.{Parts}
use Rattle.csvw_iri.specs.Link.{link_of}
use Rattle.csvw_template.specs.declared.bound.BoundPart.{BoundPart}
use Rattle.csvw_template.specs.declared.part.Part.{Part}
use Rattle.csvw_template.specs.declared.vars.Var.{Var}
use Rattle.csvw_template.specs.Bound.{bound, expand_bound, varies}
use Rattle.csvw_columns_core.specs.declared.column.Column.{Column}
use Rattle.csvw_columns_core.specs.declared.columns.Columns.{Columns}
use Rattle.csvw_columns_core.specs.declared.properties.Properties.{Properties}
use Rattle.csvw_cell.specs.declared.cell.CellValue.{CellValue}
use Rattle.csvw_annotate.specs.Bindings.{name_binding, row_values}
use Rattle.csvw_annotate.specs.CellVariables.{variables}
use Rattle.csvw_annotate.specs.Links.{no_link, outcome, link_by}
use Rattle.csvw_annotate.specs.declared.bound_link.AboutLink.{AboutLink}
use Rattle.csvw_annotate.specs.declared.bound_link.AboutLink.TheVariants.{AsBefore, Own}
use Rattle.csvw_annotate.specs.declared.bound_link.BoundLink.{BoundLink}
use Rattle.csvw_annotate.specs.declared.bound_link.BoundLink.TheVariants.{Same, Varying}
use Rattle.csvw_annotate.specs.declared.bound_link.Which.{Which}
use Rattle.csvw_annotate.specs.declared.bound_link.Which.TheVariants.{About, Property, Value}
use Rattle.csvw_annotate.specs.declared.numbers.RowNumbers.{RowNumbers}
use Rattle.csvw_annotate.specs.declared.links.Made.{Made}

-- the link by bound parts, in a table of this URL; it is made at once if it is the same in all rows
abbrev pub by_parts : Parts → List BoundPart → BoundLink
by_parts base parts = if varies parts then Varying parts else Same (outcome (link_of base (expand_bound [] parts)))

-- the link by a template of a column
abbrev pub bound_link : Parts → List Column → Column → Option (List Part) → BoundLink
bound_link base columns column None = Same no_link
bound_link base columns column (Some template) = by_parts base (bound (name_binding column columns) template)

-- a bound link in a row of these values
abbrev pub link_in : Parts → List Var → BoundLink → Made
link_in base values (Same made) = made
link_in base values (Varying parts) = outcome (link_of base (expand_bound values parts))

abbrev pub template_of : Which → Properties → Option (List Part)
template_of About properties = properties.about_url
template_of Property properties = properties.property_url
template_of Value properties = properties.value_url

-- a link of a column of a table
abbrev pub link_of_column : Which → Columns → Column → BoundLink
link_of_column which columns column = bound_link columns.url columns.columns column (template_of which column.properties)

abbrev pub bound_links : Which → Columns → List BoundLink
bound_links which columns = map (link_of_column which columns) columns.columns

-- the bound about links; `AsBefore` is replaced by that of the column before it
abbrev pub told_abouts : BoundLink → List AboutLink → List BoundLink
told_abouts before [] = []
told_abouts before (AsBefore ∷ links) = before ∷ told_abouts before links
told_abouts before (Own link ∷ links) = link ∷ told_abouts link links

-- A bound link is, in each row, the link by the template.
abbrev pub BoundLinksAreLinks : Type 0
BoundLinksAreLinks =
    (base : Parts) (row : RowNumbers) (columns : List Column) (values : List CellValue) → length values ≡ length columns
    → (column : Column) (template : Option (List Part))
    → link_in base (row_values row values) (bound_link base columns column template) ≡ link_by base (variables row column columns values) template
