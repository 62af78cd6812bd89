-- The names of one table more.
use Rattle.std.proofs.Common.{◌∙◌, ap}
use Rattle.std.specs.Prelude.{unwrap_or}
use Rattle.csvw_description.specs.Name.{numbered_names}
use Rattle.csvw_description.specs.declared.table.TableDescription.{TableDescription}
use Rattle.csvw_columns.specs.PlanOf.{no_schema, schema_of}
use Rattle.csvw_columns.proofs.MapLemmas.{map_longer}
use Rattle.csvw_columns.proofs.references.all_names.Goals as goal

pub loop-table-preserved : goal.loop-table-preserved
loop-table-preserved c =
    map_longer (λ (t : TableDescription). numbered_names 0 (schema_of t.schema c.args.group.now).columns) c.args.tables.now c.loop-table.table-index
    c.table-item.result c.loop-table-test.true c.table-item.is c.loop-table.invariant c.in_ok-push.ensures.items
    (c.in_ok-names.ensures ∙ ap (λ schema. numbered_names 0 (unwrap_or schema no_schema).columns) c.schema_of.ensures)
