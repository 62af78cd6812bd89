-- One text has one reading, and equal parts are those of one text.
use Rattle.std.proofs.Common.{◌∙◌, sym}
use Rattle.std.proofs.lemmas.Slice.Eq.{bytes_eq-Decides}
use Rattle.csvw_template.proofs.TextLemmas.{one_reading, one_text}
use Rattle.csvw_template.proofs.template.Template.is_same.Goals as goal

pub returns : goal.returns
returns c =
    let (one, plain) = c.self.invariant in
    let (other, other_plain) = c.other.invariant in
    let decides = bytes_eq-Decides c.as_str.result.now c.as_str-2.result.now in (
      λ equal.
          let same = sym c.as_str.ensures ∙ decides.0 (sym c.eq.ensures ∙ equal) ∙ c.as_str-2.ensures in
          sym c.self.view_is ∙ one_reading c.self.inside.text c.other.inside.text c.self.inside.parts c.other.inside.parts one other same ∙ c.other.view_is,
      λ same.
          let parts = c.self.view_is ∙ same ∙ sym c.other.view_is in
          let text = one_text c.self.inside.text c.other.inside.text c.self.inside.parts c.other.inside.parts one other parts in
          c.eq.ensures ∙ decides.1 (c.as_str.ensures ∙ text ∙ sym c.as_str-2.ensures),
    )
