-- A fault at the value or in its property is one that hides the property.
use Rattle.std.proofs.Common.{sym, ◌∙◌}
use Rattle.csvw_meta_core.specs.Pointer.{below}
use Rattle.csvw_meta_core.specs.Rules.{is_at, is_within}
use Rattle.csvw_meta_faults.proofs.AnyLemmas.{any_first, any_rest}
use Rattle.csvw_meta_faults.proofs.marks.Marks.hides_property.Goals as goal

pub returns-then-is_at : goal.returns-then-is_at
returns-then-is_at c =
    let at = c.args.at.now in
    let inside = below at c.args.name.now in
    sym (any_first (is_at at) (is_within inside) c.args.self.now.faults.now (sym c.is_at.ensures ∙ c.if-is_at.true))

pub returns : goal.returns
returns c =
    let at = c.args.at.now in
    let inside = below at c.args.name.now in
    rw (any_rest (is_at at) (is_within inside) c.args.self.now.faults.now (sym c.is_at.ensures ∙ c.if-is_at.false))
    (rw (c.as_str.ensures, c.in_ok-member.ensures) at c.is_within.ensures)
