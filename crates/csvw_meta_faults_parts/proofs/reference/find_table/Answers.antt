-- A reference that doesn't name its table by a schema needs a `resource`.
use Rattle.std.proofs.Common.{◌≡◌, ◌∙◌, false, is_some, sym}
use Rattle.serde_json.specs.View.{view}
use Rattle.csvw_meta_core.specs.Pointer.{text_of}
use Rattle.csvw_meta_keys.specs.References.{no_resource, schema_named}
use Rattle.csvw_meta_faults_parts.proofs.ReferenceLemmas.{by_resource}
use Rattle.csvw_meta_faults_parts.proofs.reference.find_table.Goals as goal

pub returns : goal.returns
returns c =
    let context = c.args.context.now in
    let at = text_of c.args.part.now.at in
    let d = view c.args.part.now.value.now in
    let schema = (schema_named context.profile context.base at d).value in
    let none : is_some schema ≡ false = sym (c.is_by_schema.ensures context.base) ∙ c.if-is_by_schema.false in
    rw (by_resource context.base schema at d none) (c.find_needed.ensures (no_resource at))
