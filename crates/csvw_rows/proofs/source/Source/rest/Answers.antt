use Rattle.std.proofs.Common.{◌∙◌, drop, sym, ap, subst}
use Rattle.std.specs.Prelude.{IsUtf8}
use Rattle.std.proofs.lemmas.Str.{IsUtf8-from_is_utf8}
use Rattle.csvw_rows.proofs.source.Source.rest.Goals as goal

pub from_utf8_unchecked-requires : goal.from_utf8_unchecked-requires
from_utf8_unchecked-requires c =
    let s = c.args.self.now in
    subst IsUtf8 (sym (c.split_at.ensures.back ∙ ap (drop s.taken) c.as_slice.ensures.value)) (IsUtf8-from_is_utf8 (drop s.taken s.text.items) s.is_text)
