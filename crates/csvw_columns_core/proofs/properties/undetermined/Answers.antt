-- `und` is a language tag.
use Rattle.std.proofs.Common.{◌≡◌, true, false, refl, sym, ap, ◌∙◌}
use Rattle.std.specs.Prelude.{codes}
use Rattle.csvw_text.specs.Language.{is_language_tag}
use Rattle.csvw_columns_core.proofs.properties.undetermined.Goals as goal

is_tag : is_language_tag (codes "und") ≡ true
unfolding is_language_tag
is_tag = refl

differ : true ≡ false → ⊥
differ e = cc

pub unreachable-requires : goal.unreachable-requires
unreachable-requires c =
    differ (sym is_tag ∙ ap is_language_tag (sym c.in_ok-copied.ensures) ∙ rw c.in-None.is at c.in_ok-tag.ensures)
