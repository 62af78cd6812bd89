use Rattle.std.proofs.Common.{rules, ◌∙◌, [], ap, chars}
use Rattle.std.specs.Str.{is_utf8}
use Rattle.std.proofs.lemmas.Str.{chars-nil, is_utf8-from_IsUtf8, IsUtf8-nil}
use Rattle.csvw_rows.proofs.source.Source.new.Goals as goal

pub invariant_of-result-clause-within : goal.invariant_of-result-clause-within
invariant_of-result-clause-within c = search rules

pub invariant_of-result-clause-is_text : goal.invariant_of-result-clause-is_text
invariant_of-result-clause-is_text c = ap is_utf8 c.new.ensures.items ∙ is_utf8-from_IsUtf8 [] IsUtf8-nil

pub returns-clause-rest : goal.returns-clause-rest
returns-clause-rest c = ap chars c.new.ensures.items ∙ chars-nil
