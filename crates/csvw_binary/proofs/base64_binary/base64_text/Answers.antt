-- The encoding of bytes is ASCII, so it is text.
use Rattle.std.proofs.Common.{◌≡◌, sym, ◌∙◌, subst, refl}
use Rattle.std.specs.Str.{IsUtf8}
use Rattle.std.proofs.lemmas.Str.{IsUtf8-from_ascii}
use Rattle.base64.specs.Engines.{standard}
use Rattle.base64.specs.GeneralPurpose.{encode_of}
use Rattle.base64.proofs.EngineFacts.{IsAscii-encode_of}
use Rattle.csvw_binary.proofs.ResultLemmas.{not_both}
use Rattle.csvw_binary.proofs.base64_binary.base64_text.Goals as goal

pub unreachable-requires : goal.unreachable-requires
unreachable-requires c =
    let exact : c.in_ok-form.form.items ≡ encode_of standard c.in-Ok.field-0.items = sym (c.as_slice.ensures.value) ∙ c.in-Ok.ensures.exact (refl, refl) in
    let utf8 : IsUtf8 c.in_ok-form.form.items = subst IsUtf8 (sym exact) (IsUtf8-from_ascii _ (IsAscii-encode_of standard c.in-Ok.field-0.items)) in
    not_both _ _ (c.from_utf8.ensures.succeeds utf8) c.in_default.is
