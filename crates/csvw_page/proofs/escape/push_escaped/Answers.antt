-- All characters were added.
use Rattle.std.proofs.Common.{flat_map, sym, ap, ◌∙◌, ◌++◌, map-id, string_bytes}
use Rattle.std.proofs.lemmas.Iterator.{YieldsList-from_chars}
use Rattle.std.proofs.lemmas.Iterator.Consumers.{YieldsList-end}
use Rattle.std.proofs.lemmas.Str.{encodes-chars}
use Rattle.csvw_page.proofs.EscapeLemmas.{escape_byte, escape_char, flat_map-encodes}
use Rattle.csvw_page.proofs.escape.push_escaped.Goals as goal

pub returns : goal.returns
returns c =
    let end = YieldsList-end (YieldsList-from_chars c.args.text.now c.utf8.text cc)
    c.loop-c.yielded _ c.loop-c.yielded_by _ _ c.in-None.is c.next.ensures.steps in
    c.loop-c.invariant ∙ ap (λ x. string_bytes c.args.out.now ++ x)
    (ap (flat_map escape_char) (sym (map-id c.loop-c.yielded) ∙ end.0) ∙ sym (flat_map-encodes _) ∙ ap (flat_map escape_byte)
    (encodes-chars _ c.utf8.text))
