-- A fault hides one side or the other.
use Rattle.std.proofs.Common.{codes, sym, ◌∙◌}
use Rattle.csvw_meta_core.specs.Pointer.{below}
use Rattle.csvw_meta_core.specs.Rules.{hides_property}
use Rattle.csvw_meta_faults.proofs.AnyLemmas.{any_first, any_rest}
use Rattle.csvw_meta_faults.proofs.references.hides_side.Goals as goal

pub returns-then-own : goal.returns-then-own
returns-then-own c =
    let at = c.args.at.now in
    sym (any_first (hides_property at (codes "columnReference")) (hides_property (below at (codes "reference")) (codes "columnReference"))
    c.args.scene.now.marks.now.faults.now (sym c.in_ok-own.ensures ∙ c.if-own.true))

pub returns : goal.returns
returns c =
    let at = c.args.at.now in
    rw (any_rest (hides_property at (codes "columnReference")) (hides_property (below at (codes "reference")) (codes "columnReference"))
    c.args.scene.now.marks.now.faults.now (sym c.in_ok-own.ensures ∙ c.if-own.false))
    (rw (c.as_str.ensures, c.in_ok-reference.ensures) at c.hides_property-2.ensures)
