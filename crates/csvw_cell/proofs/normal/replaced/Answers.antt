-- The passes over all characters write the text with spaces.
use Rattle.std.proofs.Common.{string_bytes, sym, ap, ◌∙◌, map-id, append-nil, [], encode_utf8_all}
use Rattle.std.proofs.lemmas.Iterator.{YieldsList-from_chars}
use Rattle.std.proofs.lemmas.Iterator.Consumers.{YieldsList-end}
use Rattle.csvw_text.specs.Collapse.{spaced}
use Rattle.csvw_cell.proofs.ReplaceLemmas.{goes_on}
use Rattle.csvw_cell.proofs.normal.replaced.Goals as goal

pub returns : goal.returns
returns c =
    let end = YieldsList-end (YieldsList-from_chars c.args.text.now c.utf8.text cc) c.loop-c.yielded _ c.loop-c.yielded_by _ _ c.in-None.is
    c.next.ensures.steps in
    sym (append-nil _) ∙ c.loop-c.invariant [] ∙ ap (λ cs. encode_utf8_all (spaced cs)) (append-nil _ ∙ sym (map-id c.loop-c.yielded) ∙ end.0)

pub loop-c-preserved : goal.loop-c-preserved
loop-c-preserved c =
    goes_on (string_bytes c.loop-c.out) (string_bytes c.push.new.self) c.loop-c.yielded c.in-Some.c c.spaced.result
    c.in_ok-push.ensures.bytes c.spaced.ensures c.loop-c.invariant
