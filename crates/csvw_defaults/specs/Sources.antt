-- What the text of a document says of its values: numbers as they are written (RFC 8259, section 6). A name that an object has twice is the last one.
use Rattle.std.specs.Prelude.{ℕ, List, if◌then◌else◌, Option, Some, None, option_and_then}
use Rattle.std.specs.Str.{is_utf8}
use Rattle.json.specs.Find as find
use Rattle.json.specs.Json.{Json, document}
use Rattle.json.specs.Value.{value_view}
use Rattle.csvw_defaults.specs.declared.node.Written.{Written}
use Rattle.csvw_defaults.specs.declared.node.Written.TheVariants.{Known, Unknown}

-- the value of a text that was read
abbrev pub source_of : Written → Option Json
source_of (Known source) = Some (value_view source.now)
source_of Unknown = None

abbrev pub in_member : List ℕ → Option Json → Option Json
in_member name source = option_and_then (find.get name) source

abbrev pub in_item : ℕ → Option Json → Option Json
in_item i source = option_and_then (find.at i) source

-- how a number is written
abbrev pub number_text : Option Json → Option (List ℕ)
number_text source = option_and_then find.as_number source

-- the value of bytes that are a text
abbrev pub source_in : List ℕ → Option Json
source_in bytes = if is_utf8 bytes then document bytes else None
