-- Datatypes of strings (Metadata Vocabulary for Tabular Data, section 5.11.1).
use Rattle.std.specs.Prelude.{Bool, true, false, not, ◌&&◌, Option, Some}
use Rattle.csvw_datatype.specs.declared.datatype.Datatype.{Datatype}
use Rattle.csvw_datatype.specs.declared.format.Format.{Format}
use Rattle.csvw_datatype.specs.declared.format.Format.TheVariants as formats
use Rattle.csvw_datatype.specs.declared.simple.Simple.{Simple}
use Rattle.csvw_datatype.specs.declared.simple.Simple.TheVariants as simples
use Rattle.csvw_datatype.specs.declared.simple.TextType.{TextType}
use Rattle.csvw_datatype.specs.declared.simple.TextType.TheVariants as types
use Rattle.csvw_datatype.specs.declared.white_space.WhiteSpace.{WhiteSpace}
use Rattle.csvw_datatype.specs.declared.white_space.WhiteSpace.TheVariants as ways

-- the type is string
abbrev pub is_text : Simple → Bool
is_text simples.Text = true
is_text _ = false

-- the base is string
abbrev pub is_string : Datatype → Bool
is_string d = is_text d.simple

-- a type that is string, or derived from it, or of octets: its values have a length
abbrev pub has_length : Simple → Bool
has_length simples.Text = true
has_length (simples.Other types.Any) = false
has_length (simples.Other types.QualifiedName) = false
has_length (simples.Other types.Time) = false
has_length (simples.Other types.Date) = false
has_length (simples.Other (types.DateTime zone)) = false
has_length (simples.Other (types.Part part)) = false
has_length (simples.Other (types.Duration kind)) = false
has_length (simples.Other _) = true
has_length _ = false

-- a type of texts whose values are ordered: of times, dates, moments, parts of dates and durations
abbrev pub is_ordered : TextType → Bool
is_ordered types.Time = true
is_ordered types.Date = true
is_ordered (types.DateTime zone) = true
is_ordered (types.Part part) = true
is_ordered (types.Duration kind) = true
is_ordered _ = false

-- What becomes of white space in a cell (Model for Tabular Data, section 6.4, steps 1 and 2). It stays in cells of string, xml, html, json and
-- anyAtomicType. In those of normalizedString line breaks and tabs become spaces. In all others runs of spaces become one, and the ends have none.
abbrev pub space_of : Simple → WhiteSpace
space_of simples.Text = ways.Preserve
space_of (simples.Other types.Any) = ways.Preserve
space_of (simples.Other types.Xml) = ways.Preserve
space_of (simples.Other types.Html) = ways.Preserve
space_of (simples.Other types.Json) = ways.Preserve
space_of (simples.Other types.Normalized) = ways.Replace
space_of _ = ways.Collapse

-- a type that may have a regular expression as its format: a text that is neither a number, a truth, a date nor a time (Model for Tabular Data,
-- sections 6.4.5 and 6.4.6)
abbrev pub takes_expression : Simple → Bool
takes_expression simples.Text = true
takes_expression simples.Uri = true
takes_expression (simples.Other types.Time) = false
takes_expression (simples.Other types.Date) = false
takes_expression (simples.Other (types.DateTime zone)) = false
takes_expression (simples.Other (types.Part part)) = false
takes_expression (simples.Other _) = true
takes_expression _ = false

-- the format is a regular expression
abbrev pub has_expression : Option Format → Bool
has_expression (Some (formats.Expression e)) = true
has_expression _ = false

-- each text is a value: the base is string, and no expression describes its texts
abbrev pub takes_any_text : Datatype → Bool
takes_any_text d = is_text d.simple && not (has_expression d.format)

abbrev pub white_space : Datatype → WhiteSpace
white_space d = space_of d.simple

-- white space at the ends of items stays in lists of string and anyAtomicType
abbrev pub ends_stay : Simple → Bool
ends_stay simples.Text = true
ends_stay (simples.Other types.Any) = true
ends_stay _ = false

abbrev pub keeps_ends : Datatype → Bool
keeps_ends d = ends_stay d.simple
