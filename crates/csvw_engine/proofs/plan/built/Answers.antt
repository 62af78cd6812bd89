-- The tables of a plan are few. Only memory can be missing.
use Rattle.csvw_engine.proofs.Planning.{few_of, lacks_memory}
use Rattle.csvw_engine.proofs.plan.built.Goals as goal

pub returns-in-Ok-clause-few : goal.returns-in-Ok-clause-few
returns-in-Ok-clause-few c = few_of c.args.description c.in-Ok.plan c.in-Ok.ensures.plan

pub returns-in-Err-clause-memory : goal.returns-in-Err-clause-memory
returns-in-Err-clause-memory c =
    let can = c.described_can_be_planned.ensures c.args.description c.requires in
    lacks_memory c.args.description c.in-Err.fault c.meta_stop.result
    (λ code. c.planned_descriptions_are_free_of_faults.ensures c.args.description code can) c.in-Err.ensures.plan c.meta_stop.ensures
