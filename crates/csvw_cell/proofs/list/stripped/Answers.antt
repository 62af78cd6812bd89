-- The text stripped at both ends.
use Rattle.std.proofs.Common.{◌∙◌, sym, ap, List, ℕ}
use Rattle.std.specs.Prelude.{encode_utf8_all}
use Rattle.std.proofs.lemmas.Bool.{cond-false}
use Rattle.std.proofs.lemmas.Str.{encodes-chars}
use Rattle.csvw_text.specs.Strip.{strip_end}
use Rattle.csvw_cell.proofs.list.stripped.Goals as goal

pub returns-else-keeps_ends : goal.returns-else-keeps_ends
returns-else-keeps_ends c =
    let r : List ℕ = c.strip_end.result.now in
    sym (encodes-chars r c.strip_end.utf8) ∙ ap encode_utf8_all (c.strip_end.ensures.chars ∙ ap strip_end c.strip_start.ensures.chars)
    ∙ sym (cond-false _ _ _ (sym c.keeps_ends.ensures ∙ c.if-keeps_ends.false))
