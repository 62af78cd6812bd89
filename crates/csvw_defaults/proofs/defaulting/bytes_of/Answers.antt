-- The text of the value is read back without the U+FEFF that precedes it.
use Rattle.std.proofs.Common.{[], ◌∷◌, ◌++◌, ap, refl, ◌∙◌}
use Rattle.csvw_defaults.proofs.BytesLemmas.{json_behind}
use Rattle.csvw_defaults.proofs.defaulting.bytes_of.Goals as goal

pub returns : goal.returns
returns c =
    let bytes = c.in_ok-extend_from_slice.ensures.items ∙ rw (c.in_ok-bytes.ensures.items, c.as_bytes.ensures.value) refl in
    record {
      json = json_behind _ c.as_str.result.now bytes c.as_str.utf8 ∙ rw c.as_str.ensures.value (c.in_ok-text.ensures.reads_back c.requires);
      text = λ none. bytes ∙ ap (λ t. (239 ∷ 187 ∷ 191 ∷ []) ++ t) (c.as_str.ensures.value ∙ c.in_ok-text.ensures.text none);
    }
