-- The schema and the keys are those of the body.
use Rattle.std.proofs.Common.{◌∙◌, [], List, None, Option, ap, codes, map, option_map}
use Rattle.serde_json.specs.View.{view}
use Rattle.csvw_description.specs.Inherited.{no_inherited}
use Rattle.csvw_description.specs.declared.schema.Schema.{Schema}
use Rattle.csvw_meta_core.specs.Pointer.{text_of}
use Rattle.csvw_meta_core.specs.Read.{needed, optional}
use Rattle.csvw_meta_inherited.specs.Inherited.{inherited}
use Rattle.csvw_meta_keys.specs.declared.keys.KeysFound.{KeysFound}
use Rattle.csvw_meta.specs.Body.{body, body_of}
use Rattle.csvw_meta.specs.Group.{group, tables}
use Rattle.csvw_meta.specs.Schema.{schema}
use Rattle.csvw_meta.specs.declared.group.GroupFound.{GroupFound}
use Rattle.csvw_meta.specs.declared.schema.SchemaFound.{SchemaFound}
use Rattle.csvw_meta.specs.declared.table.TableFound.{TableFound}
use Rattle.csvw_meta_faults.specs.Seen.{as_table, bare_schema, bare_table}
use Rattle.csvw_meta_faults.proofs.ColumnsLemmas.{keys_seen, schema_seen}
use Rattle.csvw_meta_faults.proofs.seen_group.group_seen.Goals as goal

with_parts : List TableFound → Option Schema → Option KeysFound → GroupFound
with_parts ts s k = record {
  id = None;
  tables = ts;
  given = record { dialect = None; warnings = [] };
  body = record { schema = s; keys = k; inherited = no_inherited; warnings = [] };
  notes = [];
}

pub returns : goal.returns
unfolding group body with_parts
returns c =
    let at = text_of c.args.part.now.at in
    let d = view c.args.part.now.value.now in
    let own = (optional (schema c.args.context.now 0) at d (codes "tableSchema")).value in
    let found = (inherited c.args.context.now 0 0 at d).value in
    let t1 = map bare_table (needed (tables c.args.context.now) [] at d (codes "tables")).value in
    let s1 = option_map bare_schema (body_of own found).schema in
    ap (λ ts. with_parts ts c.group_with.result.schema c.group_with.result.keys)
    (ap (λ ts. map as_table ts) c.group_with.ensures.tables ∙ c.in_ok-tables.ensures)
    ∙ (ap (λ s. with_parts t1 s c.group_with.result.keys)
    (c.group_with.ensures.schema ∙ (ap (λ o. option_map (λ (x : SchemaFound). x.schema) o) (c.in_ok-own.ensures 0) ∙ schema_seen own found))
    ∙ ap (λ k. with_parts t1 s1 k)
    (c.group_with.ensures.keys ∙ (ap (λ o. option_map (λ (x : SchemaFound). x.keys) o) (c.in_ok-own.ensures 0) ∙ keys_seen own found)))
