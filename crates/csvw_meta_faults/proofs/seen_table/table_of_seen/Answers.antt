-- The schema and the keys are those of the body.
use Rattle.std.proofs.Common.{◌∙◌, [], None, Option, ap, codes, false, option_map, unwrap_or}
use Rattle.serde_json.specs.View.{view}
use Rattle.url.specs.Parts.{Parts}
use Rattle.csvw_description.specs.Inherited.{no_inherited}
use Rattle.csvw_description.specs.declared.schema.Schema.{Schema}
use Rattle.csvw_meta_core.specs.Links.{no_url, url}
use Rattle.csvw_meta_core.specs.Pointer.{text_of}
use Rattle.csvw_meta_core.specs.Read.{needed, optional}
use Rattle.csvw_meta_inherited.specs.Inherited.{inherited}
use Rattle.csvw_meta_keys.specs.declared.keys.KeysFound.{KeysFound}
use Rattle.csvw_meta.specs.Body.{body, body_of}
use Rattle.csvw_meta.specs.Schema.{schema}
use Rattle.csvw_meta.specs.Table.{table_of}
use Rattle.csvw_meta.specs.declared.schema.SchemaFound.{SchemaFound}
use Rattle.csvw_meta.specs.declared.table.TableFound.{TableFound}
use Rattle.csvw_meta_faults.specs.Seen.{bare_schema}
use Rattle.csvw_meta_faults.proofs.ColumnsLemmas.{keys_seen, schema_seen}
use Rattle.csvw_meta_faults.proofs.seen_table.table_of_seen.Goals as goal

with_parts : Parts → Option Schema → Option KeysFound → TableFound
with_parts u s k = record {
  table = record { url = u; id = None; dialect = None; schema = s; suppressed = false; inherited = no_inherited; notes = []; warnings = [] };
  keys = k;
}

pub returns : goal.returns
unfolding table_of body with_parts
returns c = λ sole number.
    let at = text_of c.args.part.now.at in
    let d = view c.args.part.now.value.now in
    let own = (optional (schema c.args.context.now number) at d (codes "tableSchema")).value in
    let found = (inherited c.args.context.now number 0 at d).value in
    let u1 = (needed (url c.args.context.now.base) no_url at d (codes "url")).value in
    let s1 = option_map bare_schema (body_of own found).schema in
    ap (λ u. with_parts u c.table_with.result.schema c.table_with.result.keys)
    (ap (λ o. unwrap_or o no_url) c.table_with.ensures.url ∙ c.in_ok-url.ensures)
    ∙ (ap (λ s. with_parts u1 s c.table_with.result.keys)
    (c.table_with.ensures.schema ∙ (ap (λ o. option_map (λ (x : SchemaFound). x.schema) o) (c.in_ok-own.ensures number) ∙ schema_seen own found))
    ∙ ap (λ k. with_parts u1 s1 k)
    (c.table_with.ensures.keys ∙ (ap (λ o. option_map (λ (x : SchemaFound). x.keys) o) (c.in_ok-own.ensures number) ∙ keys_seen own found)))
