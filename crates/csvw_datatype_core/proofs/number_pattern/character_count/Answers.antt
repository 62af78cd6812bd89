-- The count is that of the characters that the bytes spell.
use Rattle.std.proofs.Common.{rules}
use Rattle.std.proofs.lemmas.Str.{chars_from_encodes}
use Rattle.csvw_datatype_core.proofs.number_pattern.character_count.Goals as goal

pub returns : goal.returns
returns c = search (rules, chars_from_encodes)
