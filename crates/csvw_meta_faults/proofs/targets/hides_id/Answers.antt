-- A fault hides the table or the `@id`.
use Rattle.std.proofs.Common.{codes, sym, ◌∙◌}
use Rattle.csvw_meta_core.specs.Rules.{hides_property, is_at}
use Rattle.csvw_meta.specs.References.{own_schema_at}
use Rattle.csvw_meta_faults.proofs.AnyLemmas.{any_first, any_rest}
use Rattle.csvw_meta_faults.proofs.targets.hides_id.Goals as goal

pub returns-then-is_at : goal.returns-then-is_at
returns-then-is_at c =
    let at = c.args.at.now in
    let schema = own_schema_at at c.args.group.now.at.now c.args.table.now.schema in
    sym (any_first (is_at at) (hides_property schema (codes "@id")) c.args.group.now.marks.now.faults.now (sym c.is_at.ensures ∙ c.if-is_at.true))

pub returns : goal.returns
returns c =
    let at = c.args.at.now in
    let schema = own_schema_at at c.args.group.now.at.now c.args.table.now.schema in
    rw (any_rest (is_at at) (hides_property schema (codes "@id")) c.args.group.now.marks.now.faults.now (sym c.is_at.ensures ∙ c.if-is_at.false))
    (rw (c.as_str.ensures, c.in_ok-schema.ensures) at c.hides_property.ensures)
