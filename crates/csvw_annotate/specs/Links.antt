-- The links of a cell: `links_of` (Metadata Vocabulary for Tabular Data, sections 5.1.3 and 5.7).
use Rattle.std.specs.Prelude.{ℕ, List, [], ◌∷◌, ◌++◌, Bool, true, false, ◌||◌, Option, Some, None, is_some, Result, Ok, Err, if◌then◌else◌}
use Rattle.url.specs.Parts.{Parts}
use Rattle.csvw_fault.specs.declared.fault.Code.{Code}
use Rattle.csvw_fault.specs.declared.fault.Code.TheVariants.{BadUrl, UrlTooLong}
use Rattle.csvw_iri.specs.Link.{Refusal, too_long, bad, link_of}
use Rattle.csvw_template.specs.declared.part.Part.{Part}
use Rattle.csvw_template.specs.Expand.{expand}
use Rattle.csvw_template.specs.Variables.{Variables}
use Rattle.csvw_columns_core.specs.declared.column.Column.{Column}
use Rattle.csvw_cell.specs.Codes.{told}
use Rattle.csvw_cell.specs.declared.cell.CellValue.{CellValue}
use Rattle.csvw_cell.specs.declared.cell.CellValue.TheVariants.{Null, One, Many}
use Rattle.csvw_annotate.specs.declared.links.Made.{Made}
use Rattle.csvw_annotate.specs.declared.links.Links.{Links}

abbrev pub no_link : Made
no_link = record { iri = None; is_bad = false; is_too_long = false }

-- a link that fails is absent
abbrev pub outcome : Result (List ℕ) Refusal → Made
outcome (Ok iri) = record { iri = Some iri; is_bad = false; is_too_long = false }
outcome (Err too_long) = record { iri = None; is_bad = false; is_too_long = true }
outcome (Err bad) = record { iri = None; is_bad = true; is_too_long = false }

-- the link by a template, in a table of this URL
abbrev pub link_by : Parts → Variables → Option (List Part) → Made
link_by base vars None = no_link
link_by base vars (Some template) = outcome (link_of base (expand vars template))

-- neither null nor the empty list
abbrev pub has_value : CellValue → Bool
has_value Null = false
has_value (One item) = true
has_value (Many []) = false
has_value (Many (item ∷ items)) = true

-- a cell without a value has no value link, unless its column is virtual
abbrev pub value_link : Parts → Variables → Column → CellValue → Made
value_link base vars column value =
    if column.is_virtual || has_value value then link_by base vars column.properties.value_url else no_link

-- three links, and whether something is wrong with one of them
abbrev pub joined : Made → Made → Made → Links
joined about property value = record {
  about = about.iri;
  property = property.iri;
  value = value.iri;
  is_bad = about.is_bad || property.is_bad || value.is_bad;
  is_too_long = about.is_too_long || property.is_too_long || value.is_too_long;
}

-- the links of a cell of this column and value under these variables
abbrev pub links_of : Parts → Variables → Column → CellValue → Links
links_of base vars column value =
    joined (link_by base vars column.properties.about_url) (link_by base vars column.properties.property_url) (value_link base vars column value)

-- the codes of what is wrong with the links, each once, in their order
abbrev pub codes_of : Links → List Code
codes_of links = told links.is_bad BadUrl ++ told links.is_too_long UrlTooLong

-- a template for a property or a value link
abbrev pub has_own_template : Column → Bool
has_own_template column = is_some column.properties.property_url || is_some column.properties.value_url

abbrev pub has_template : Column → Bool
has_template column = is_some column.properties.about_url || is_some column.properties.property_url || is_some column.properties.value_url
