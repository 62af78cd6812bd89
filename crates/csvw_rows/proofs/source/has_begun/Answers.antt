use Rattle.std.proofs.Common.{not, if◌then◌else◌, Bool, true, sym, ap, ◌∙◌, ◌==◌, length, chars}
use Rattle.csvw_rows.proofs.TextLemmas.{text_empty}
use Rattle.csvw_rows.proofs.source.has_begun.Goals as goal

pub returns-else-begun : goal.returns-else-begun
returns-else-begun c =
    let text = c.args.text.now in
    ap not (c.is_empty.ensures ∙ text_empty text c.utf8.text) ∙ ap (λ (b : Bool). if b then true else not (length (chars text) == 0)) (sym c.if-begun.false)
