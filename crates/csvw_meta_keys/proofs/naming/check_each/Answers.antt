use Rattle.csvw_meta_keys.specs.Naming.{all_known, foreign_faults}
use Rattle.csvw_meta_keys.proofs.NamingLemmas.{ends, told}
use Rattle.csvw_meta_keys.proofs.naming.check_each.Goals as goal

pub returns-in_err-check_foreign : goal.returns-in_err-check_foreign
returns-in_err-check_foreign c =
    let e = c.in_err-check_foreign.field-0.0 in
    told c.from_residual.result e _ _ c.from_residual.ensures.1
    (ends (foreign_faults all_known c.args.own.now c.args.targets.now) c.args.keys.now c.loop-key.key-index c.key-item.result c.loop-key-test.true c.key-item.is
    c.loop-key.invariant e c.in_err-check_foreign.ensures)
