-- The lengths of a datatype of a document, and their faults (Metadata Vocabulary for Tabular Data, section 5.11.2).
use Rattle.std.specs.Prelude.{ℕ, List, Option, Some, None, option_and_then, codes, if◌then◌else◌}
use Rattle.serde_json.specs.Data.{Data}
use Rattle.serde_json.specs.Find.{as_number, as_u64}
use Rattle.csvw_datatype.specs.declared.simple.Simple.{Simple}
use Rattle.csvw_datatype.specs.Strings.{has_length}
use Rattle.csvw_meta_core.specs.declared.fault.MetaCode.TheVariants.{BadDatatype}
use Rattle.csvw_meta_core.specs.Read.{Read, fine, faulty, ◌>>=◌, on_kind, property}
use Rattle.csvw_meta_datatype.specs.declared.lengths.Lengths.{Lengths}

-- only string and the types derived from it have a length
abbrev pub length_on : Simple → List ℕ → ℕ → Read (Option ℕ)
length_on s at n = if has_length s then fine (Some n) else faulty BadDatatype at None

-- a whole number of characters
abbrev pub length : Simple → List ℕ → Data → Read (Option ℕ)
length s at d = on_kind at d None (option_and_then as_u64 (as_number d)) (length_on s at)

unfoldable pub lengths : Simple → List ℕ → Data → Read Lengths
lengths s at d = do
  exact ← property (length s) None at d (codes "length")
  least ← property (length s) None at d (codes "minLength")
  most ← property (length s) None at d (codes "maxLength")
  fine (record { length = exact; min_length = least; max_length = most })
