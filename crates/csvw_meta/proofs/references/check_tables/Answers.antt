-- The first fault of a table is one of all.
use Rattle.csvw_meta_keys.specs.Naming.{all_known}
use Rattle.csvw_meta.specs.References.{schema_faults}
use Rattle.csvw_meta.proofs.FirstLemmas.{ends, told}
use Rattle.csvw_meta.proofs.references.check_tables.Goals as goal

pub returns-in_err-check_schema : goal.returns-in_err-check_schema
returns-in_err-check_schema c =
    let e = c.in_err-check_schema.field-0.0 in
    told c.from_residual.result e _ _ c.from_residual.ensures.1
    (ends (λ t. schema_faults all_known c.args.targets.now t.table.schema t.keys) c.args.tables.now c.loop-found.found-index c.found-item.result
    c.loop-found-test.true c.found-item.is c.loop-found.invariant e c.in_err-check_schema.ensures)
