-- The passes over all characters write the collapsed text.
use Rattle.std.proofs.Common.{◌≡◌, string_bytes, sym, ap, ◌∙◌, map-id, append-nil, [], encode_utf8_all}
use Rattle.std.proofs.lemmas.Iterator.{YieldsList-from_chars}
use Rattle.std.proofs.lemmas.Iterator.Consumers.{YieldsList-end}
use Rattle.csvw_text.specs.declared.spaces.Stand.TheVariants.{Front}
use Rattle.std.specs.Str.{chars}
use Rattle.csvw_text.specs.Collapse.{is_space}
use Rattle.csvw_text.specs.Spaces.{next, rest}
use Rattle.csvw_text.proofs.SpacesLemmas.{goes_on, rest_collapse}
use Rattle.csvw_text.proofs.spaces.collapse.Goals as goal

pub returns : goal.returns
returns c =
    let end = YieldsList-end (YieldsList-from_chars c.args.text.now c.utf8.text cc) c.loop-c.yielded _ c.loop-c.yielded_by _ _ c.in-None.is
    c.next.ensures.steps in
    sym (append-nil _) ∙ c.loop-c.invariant [] ∙ ap (λ cs. encode_utf8_all (rest Front cs)) (append-nil _ ∙ sym (map-id c.loop-c.yielded) ∙ end.0)
    ∙ ap encode_utf8_all (rest_collapse (chars c.args.text.now))

pub loop-c-preserved : goal.loop-c-preserved
loop-c-preserved c =
    let moves : c.after-stand.result ≡ next c.loop-c.stand (is_space c.in-Some.c) = c.after-stand.ensures ∙ ap (next c.loop-c.stand) c.is_space.ensures in
    goes_on (string_bytes c.loop-c.out) (string_bytes c.push_next.new.out) c.loop-c.stand c.after-stand.result c.loop-c.yielded c.in-Some.c
    c.in_ok-push_next.ensures moves c.loop-c.invariant
