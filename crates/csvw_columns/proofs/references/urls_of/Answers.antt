-- One URL more.
use Rattle.std.proofs.Common.{◌∙◌}
use Rattle.csvw_iri.specs.Link.{iri_of}
use Rattle.csvw_description.specs.declared.table.TableDescription.{TableDescription}
use Rattle.csvw_columns.proofs.MapLemmas.{map_longer}
use Rattle.csvw_columns.proofs.references.urls_of.Goals as goal

pub loop-table-preserved : goal.loop-table-preserved
loop-table-preserved c =
    map_longer (λ (t : TableDescription). iri_of t.url) c.args.tables.now c.loop-table.table-index c.table-item.result c.loop-table-test.true c.table-item.is
    c.loop-table.invariant c.in_ok-push.ensures.items (c.in_ok-url.ensures ∙ c.iri.ensures.value)
