-- At the end the characters so far are those of the text.
use Rattle.std.proofs.Common.{◌≡◌, ◌∙◌, ◌++◌, flat_map, map-id, string_bytes, subst, sym}
use Rattle.std.proofs.lemmas.Iterator.{YieldsList-from_chars}
use Rattle.std.proofs.lemmas.Iterator.Consumers.{YieldsList-end}
use Rattle.std.specs.Str.{chars}
use Rattle.csvw_help.specs.Escapes.{posix_quoted}
use Rattle.csvw_help.proofs.words.push_posix_text.Goals as goal

pub returns : goal.returns
returns c =
    let end = YieldsList-end (YieldsList-from_chars c.args.word.now c.utf8.word cc) c.loop-c.yielded _ c.loop-c.yielded_by _ _ c.in-None.is
    c.next.ensures.steps in
    let all : c.loop-c.yielded ≡ chars c.args.word.now = sym (map-id c.loop-c.yielded) ∙ end.0 in
    subst (λ ys. string_bytes c.loop-c.text ≡ string_bytes c.args.text.now ++ flat_map posix_quoted ys) all c.loop-c.invariant
