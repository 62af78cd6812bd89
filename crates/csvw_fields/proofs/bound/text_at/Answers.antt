use Rattle.std.proofs.Common.{◌≡◌, ◌-◌, ◌∙◌, Bool, ℕ, List, take, drop, sym, ap, subst, if◌then◌else◌}
use Rattle.std.specs.Prelude.{IsUtf8}
use Rattle.csvw_fields.specs.Bounds.{home_of}
use Rattle.csvw_fields.proofs.BoundLemmas.{bounded}
use Rattle.csvw_fields.proofs.bound.text_at.Goals as goal
use Rattle.csvw_fields.proofs.bound.text_at.Goals.{then-bound, else-bound}

pub from_utf8_unchecked-requires : goal.from_utf8_unchecked-requires
from_utf8_unchecked-requires c =
    let b = c.args.bound in
    let text : List ℕ = c.args.text.now in
    let spare : List ℕ = c.args.spare.now in
    let home : c.if-bound.home.now ≡ home_of text spare b = elim c.if-bound.branch [
      | then-bound w ↦ ap (λ x. x.now) w.home-is ∙ ap (λ (x : Bool). if x then spare else text) (sym w.if-bound.true)
      | else-bound w ↦ ap (λ x. x.now) w.home-is ∙ ap (λ (x : Bool). if x then spare else text) (sym w.if-bound.false)
    ] in
    subst IsUtf8
    (sym (c.split_at-2.ensures.front ∙ ap (take (b.to - b.from)) (c.split_at.ensures.back ∙ ap (drop b.from) home)))
    (bounded text spare b c.requires).is_text
