-- By the events that the session took, and the faults that its outcome lists.
use Rattle.csvw_group_laws.proofs.AnyOrder.{ends_annotated}
use Rattle.csvw_group_laws.proofs.laws.finished_sessions_annotate.Goals as goal

pub returns : goal.returns
returns g c =
    let s = g.S.TripleSink in
    λ sink events session outcome h.
    ends_annotated s.gains sink events session outcome h.outcome_is
    (c.sessions_annotate.ensures sink h.start events session h.opened h.stands h.outcome_is.ended)
