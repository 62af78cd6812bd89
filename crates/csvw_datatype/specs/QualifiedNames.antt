-- Texts that are names with or without a prefix: QName (Namespaces in XML 1.0, section 4; XML Schema 1.1 Part 2, section 3.3.18).
use Rattle.std.specs.Prelude.{ℕ, ◌&&◌, not, Bool, Option, Some, None, is_some, List}
use Rattle.std.specs.Str.{chars}
use Rattle.csvw_datatype_core.specs.XmlNames.{is_name}
use Rattle.csvw_datatype.specs.Splits.{parts_at}

-- the text before the first ":" and the text after it, if there is one
abbrev pub at_colon : List ℕ → Option (List ℕ × List ℕ)
at_colon text = parts_at 58 text

-- a Name without a colon
abbrev pub is_unprefixed_name : List ℕ → Bool
is_unprefixed_name text = is_name (chars text) && not (is_some (at_colon text))

-- the text is a Name without a colon, or the texts before and after its colon are
abbrev pub are_names : List ℕ → Option (List ℕ × List ℕ) → Bool
are_names text None = is_unprefixed_name text
are_names text (Some x) = is_unprefixed_name x.0 && is_unprefixed_name x.1

abbrev pub is_qualified_name : List ℕ → Bool
is_qualified_name text = are_names text (at_colon text)
