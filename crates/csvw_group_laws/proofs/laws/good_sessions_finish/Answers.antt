-- By one call after the other.
use Rattle.std.proofs.Common.{sym, subst, length}
use Rattle.csvw_columns.specs.declared.plan.Plan.{Plan}
use Rattle.csvw_group_laws.specs.Annotated.{AreAnnotated}
use Rattle.csvw_group_laws.specs.GoodEvents.{AreGood}
use Rattle.csvw_group_laws.specs.AtEnd.{texts_of}
use Rattle.csvw_group_laws.proofs.Courses.{ends_well}
use Rattle.csvw_group_laws.proofs.laws.good_sessions_finish.Goals as goal

pub returns : goal.returns
returns g c =
    let s = g.S.TripleSink in
    λ plan mode sink session last events answers tables starts good are k.
    ends_well s.gains s.cuts s.is_open s.failed c.good_events_are_taken.ensures session.sink session last events answers tables starts.stands
    (subst (λ (p : Plan). AreGood (length p.tables) events) (sym starts.plan_is) good)
    (subst (λ (p : Plan). AreAnnotated p.tables (texts_of events) tables) (sym starts.plan_is) are) k
