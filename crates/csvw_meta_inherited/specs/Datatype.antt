-- The datatype of an object, with the warnings on it (Metadata Vocabulary for Tabular Data, section 5.11).
use Rattle.std.specs.Prelude.{ℕ, List, [], Option, Some, None, codes}
use Rattle.serde_json.specs.Data.{Data}
use Rattle.csvw_meta_core.specs.Read.{Read, under, optional}
use Rattle.csvw_meta_datatype.specs.declared.form.DatatypeFound.{DatatypeFound}
use Rattle.csvw_meta_datatype.specs.Datatypes.{datatype}
use Rattle.csvw_meta_core.specs.declared.context.Context.{Context}
use Rattle.csvw_meta_inherited.specs.declared.datatype.DatatypeGiven.{DatatypeGiven}
use Rattle.csvw_meta_notes.specs.Places.{place_of}

abbrev pub split : Option DatatypeFound → DatatypeGiven
split None = record { datatype = None; warnings = [] }
split (Some found) = record { datatype = Some found.datatype; warnings = found.warnings }

-- the datatype of the column of this number (0: not a column), in the table of that number (0: in the group)
unfoldable pub given_datatype : Context → ℕ → ℕ → List ℕ → Data → Read DatatypeGiven
given_datatype context table column at d = under split (optional (datatype context.profile context.base (place_of table column)) at d (codes "datatype"))
