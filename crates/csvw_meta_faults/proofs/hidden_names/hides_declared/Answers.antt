-- A fault hides the names if it is at the schema, at its columns, or hides the name of one of them.
use Rattle.std.proofs.Common.{codes, sym, ◌||◌, ◌∙◌}
use Rattle.csvw_meta_core.specs.Pointer.{below}
use Rattle.csvw_meta_core.specs.Rules.{is_at}
use Rattle.csvw_meta.specs.NamesRead.{hides_one}
use Rattle.csvw_meta_faults.proofs.AnyLemmas.{any_first, any_rest}
use Rattle.csvw_meta_faults.proofs.hidden_names.hides_declared.Goals as goal

pub returns-then-is_at : goal.returns-then-is_at
returns-then-is_at c =
    let at = c.args.at.now in
    let array = below at (codes "columns") in
    sym (any_first (is_at at) (λ f. is_at array f || hides_one array 0 c.args.columns.now f) c.args.marks.now.faults.now
    (sym c.is_at.ensures ∙ c.if-is_at.true))

pub returns-then-is_at-2 : goal.returns-then-is_at-2
returns-then-is_at-2 c =
    let at = c.args.at.now in
    let array = below at (codes "columns") in
    let faults = c.args.marks.now.faults.now in
    let hit = sym (rw (c.as_str.ensures, c.in_ok-array.ensures) at c.is_at-2.ensures) ∙ c.if-is_at-2.true in
    sym (any_rest (is_at at) (λ f. is_at array f || hides_one array 0 c.args.columns.now f) faults (sym c.is_at.ensures ∙ c.if-is_at.false)
    ∙ any_first (is_at array) (hides_one array 0 c.args.columns.now) faults hit)

pub returns : goal.returns
returns c =
    let at = c.args.at.now in
    let array = below at (codes "columns") in
    let faults = c.args.marks.now.faults.now in
    let miss = sym (rw (c.as_str.ensures, c.in_ok-array.ensures) at c.is_at-2.ensures) ∙ c.if-is_at-2.false in
    rw (
      any_rest (is_at at) (λ f. is_at array f || hides_one array 0 c.args.columns.now f) faults (sym c.is_at.ensures ∙ c.if-is_at.false),
      any_rest (is_at array) (hides_one array 0 c.args.columns.now) faults miss,
    )
    (rw (c.as_str-2.ensures, c.in_ok-array.ensures) at c.hides_one.ensures)
