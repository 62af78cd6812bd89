-- A text without white space stays when its white space is replaced, and when it is collapsed.
use Rattle.std.proofs.Common.{◌≡◌, ◌∙◌, sym, ap, false}
use Rattle.std.specs.List.{list_any}
use Rattle.std.specs.Str.{chars}
use Rattle.csvw_text.specs.Collapse.{is_space}
use Rattle.csvw_cell.specs.CellOf.{normalized_by}
use Rattle.csvw_cell.proofs.NormalLemmas.{stays_by, no_space}
use Rattle.csvw_cell.proofs.normal.is_normal.Goals as goal

pub returns-in-Replace : goal.returns-in-Replace
returns-in-Replace c = λ e.
    let text = c.args.text.now in
    let none : list_any is_space (chars text) ≡ false = sym c.has_space.ensures ∙ no_space c.has_space.result e in
    ap (λ way. normalized_by way text) (sym c.white_space.ensures) ∙ stays_by c.white_space.result text c.utf8.text none
