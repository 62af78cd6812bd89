-- Templates whose literals expand to themselves (RFC 6570, section 3.1).
use Rattle.std.specs.Prelude.{List, Bool, true}
use Rattle.std.specs.List.{list_all}
use Rattle.csvw_template.specs.declared.part.Part.{Part}
use Rattle.csvw_template.specs.declared.part.Part.TheVariants.{Literal, Expression}
use Rattle.csvw_template.specs.Expand.{is_plain}

-- an expression, or a literal of unreserved and reserved characters
abbrev pub is_plain_part : Part → Bool
is_plain_part (Literal text) = list_all is_plain text
is_plain_part (Expression operator names) = true

abbrev pub are_plain : List Part → Bool
are_plain parts = list_all is_plain_part parts
