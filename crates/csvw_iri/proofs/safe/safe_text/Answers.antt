use Rattle.std.proofs.Common.{flat_map, sym, ap, ◌∙◌, map-id}
use Rattle.std.proofs.lemmas.Iterator.{YieldsList-from_chars}
use Rattle.std.proofs.lemmas.Iterator.Consumers.{YieldsList-end}
use Rattle.std.proofs.lemmas.Str.{encodes-chars}
use Rattle.csvw_iri.specs.Safe.{safe, safe_byte}
use Rattle.csvw_iri.proofs.SafeLemmas.{safe_char, flat_map-encodes}
use Rattle.csvw_iri.proofs.safe.safe_text.Goals as goal

pub returns : goal.returns
unfolding safe
returns c =
    let end = YieldsList-end (YieldsList-from_chars c.args.text.now c.utf8.text cc) c.loop-c.yielded _ c.loop-c.yielded_by _ _ c.in-None.is
    c.next.ensures.steps in
    c.loop-c.invariant ∙ ap (flat_map safe_char) (sym (map-id c.loop-c.yielded) ∙ end.0) ∙ sym (flat_map-encodes _)
    ∙ ap (flat_map safe_byte) (encodes-chars _ c.utf8.text)
