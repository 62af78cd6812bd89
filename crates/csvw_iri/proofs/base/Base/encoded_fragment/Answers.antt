use Rattle.std.proofs.Common.{◌≡◌, ◌++◌, ◌∙◌, ap, arith}
use Rattle.std.specs.Prelude.{codes}
use Rattle.std.proofs.lemmas.Bool.Decides.{nat_tests}
use Rattle.csvw_iri.specs.Encoded.{percent_encoded}
use Rattle.csvw_iri.proofs.EncodedLinks.{fragment_takes}
use Rattle.csvw_iri.proofs.FragmentLinks.{fragment_link, fragment_raw}
use Rattle.csvw_iri.proofs.base.Base.encoded_fragment.Goals as goal

-- what stands in the room
split : (c : goal.After-as_str) → c.as_str.result.now ≡ codes "#" ++ percent_encoded c.args.text.now
unfolding lib.Utf8.encode
split c =
    c.as_str.ensures.value ∙ c.in_ok-push_percent_encoded.ensures
    ∙ ap (λ l. l ++ percent_encoded c.args.text.now) (c.in_ok-push.ensures.bytes ∙ ap (λ l. l ++ codes "#") c.clear.ensures.bytes)

pub fragment_link-requires-clause-link : goal.fragment_link-requires-clause-link
fragment_link-requires-clause-link c =
    let text = c.as_str.result.now in
    fragment_link text (percent_encoded c.args.text.now) (split c) (fragment_takes c.args.text.now) (grind (arith, nat_tests))

pub fragment_link-requires-clause-raw : goal.fragment_link-requires-clause-raw
fragment_link-requires-clause-raw c = fragment_raw c.as_str.result.now (percent_encoded c.args.text.now) (split c) (fragment_takes c.args.text.now)
