-- One more column.
use Rattle.csvw_iri.specs.Link.{iri_of}
use Rattle.csvw_columns_core.proofs.DeclaredLemmas.{one_more}
use Rattle.csvw_columns_core.proofs.declared.Frame.declared_columns.Goals as goal

pub loop-i-preserved : goal.loop-i-preserved
loop-i-preserved c =
    let frame = c.args.self.now in
    one_more (iri_of frame.url) frame.skip_columns frame.schema frame.table c.args.group.now c.args.descriptions.now c.loop-i.i
    c.index-descriptions-i.result _ _
    c.in_ok-column.column c.loop-i-test.true c.index-descriptions-i.is c.loop-i.invariant c.in_ok-push.ensures.items c.in_ok-column.ensures
