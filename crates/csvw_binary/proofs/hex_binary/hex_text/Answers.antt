-- What `hex` decodes is bytes.
use Rattle.std.proofs.Common.{ap, ◌∙◌}
use Rattle.hex.specs.Hex.{encode_upper}
use Rattle.hex.proofs.HexLemmas.{decode_of-ok}
use Rattle.csvw_binary.proofs.hex_binary.hex_text.Goals as goal

pub returns-in_ok-form-in-Ok-clause-encoded : goal.returns-in_ok-form-in-Ok-clause-encoded
returns-in_ok-form-in-Ok-clause-encoded c =
    let bytes = c.in-Ok.bytes.items in
    (bytes, (decode_of-ok c.args.text.now bytes c.in-Ok.ensures.ok).3, c.of.ensures ∙ c.in_ok-form-in-Ok.ensures ∙ ap encode_upper c.as_slice.ensures.value)
