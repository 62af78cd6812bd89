-- A fault hides a name if it hides the property, or the titles of a column without a name.
use Rattle.std.proofs.Common.{◌≡◌, ◌&&◌, ◌∙◌, codes, is_none, sym, true}
use Rattle.csvw_meta_core.specs.Pointer.{below}
use Rattle.csvw_meta_core.specs.Rules.{hides_property, is_within}
use Rattle.csvw_meta_faults.proofs.AnyLemmas.{any_first, any_rest}
use Rattle.csvw_meta_faults.proofs.KnownLemmas.{any_under, none_of}
use Rattle.csvw_meta_faults.proofs.names_read.hides_name.Goals as goal

pub returns-then-hidden : goal.returns-then-hidden
returns-then-hidden c =
    let at = c.args.at.now in
    sym (any_first (hides_property at (codes "name")) (λ f. is_none c.args.column.now.name && is_within (below at (codes "titles")) f)
    c.args.marks.now.faults.now (sym c.in_ok-hidden.ensures ∙ c.if-hidden.true))

pub returns : goal.returns
returns c =
    let at = c.args.at.now in
    let faults = c.args.marks.now.faults.now in
    let bare : is_none c.args.column.now.name ≡ true = none_of c.args.column.now.name (sym c.is_some.ensures ∙ c.if-is_some.false) in
    rw (
      any_rest (hides_property at (codes "name")) (λ f. is_none c.args.column.now.name && is_within (below at (codes "titles")) f) faults
          (sym c.in_ok-hidden.ensures ∙ c.if-hidden.false),
      any_under (is_none c.args.column.now.name) (is_within (below at (codes "titles"))) faults bare,
    )
    (rw (c.as_str.ensures, c.in_ok-titles.ensures) at c.is_within.ensures)
