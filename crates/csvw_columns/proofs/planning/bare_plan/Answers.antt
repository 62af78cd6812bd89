-- Each part is that of the plan.
use Rattle.std.proofs.Common.{◌∙◌, ap}
use Rattle.csvw_records.specs.declared.dialect.Dialect.{Dialect}
use Rattle.csvw_iri.specs.Link.{iri_of}
use Rattle.csvw_columns_core.specs.SchemaColumns.{declared_columns}
use Rattle.csvw_columns.specs.PlanOf.{schema_of}
use Rattle.csvw_columns.proofs.planning.bare_plan.Goals as goal

pub returns : goal.returns
returns c =
    let table = c.args.table.now in
    let group = c.args.group.now in
    let schema = schema_of table.schema group.schema in
    let framed = rw c.in_ok-frame.ensures.0 at c.framed-framed.ensures in
    let rest = rw c.in_ok-frame.ensures.1 at c.both-rest.ensures in
    let id = rw rest.0 at c.copied_option-id.ensures in
    let inherited = rw rest.1 at c.clone.ensures in
    let dialect = c.in_ok-dialect.ensures in
    let declared = framed.1
    ∙ ap (λ (d : Dialect). declared_columns (iri_of table.url) d.skip_columns schema.inherited table.inherited group.inherited schema.columns) dialect in
    λ i. record {
      number = c.args.number;
      url = (framed.0 i).url;
      id = id i;
      suppressed = table.suppressed;
      dialect = dialect i;
      declared = declared i;
      schema = (framed.0 i).schema;
      table = (framed.0 i).table;
      group = inherited i;
      primary_key = c.new.ensures i;
      foreign_keys = c.new-2.ensures i;
      notes = c.new-3.ensures i;
    }
