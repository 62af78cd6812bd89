-- By the texts that the readers have left. What describes a group has no fault.
use Rattle.csvw_engine.specs.Rooms.{IsOrder}
use Rattle.csvw_engine.proofs.GoodRuns.{ok_or_lacks}
use Rattle.csvw_engine.proofs.laws.good_runs_succeed.Goals as goal

pub returns : goal.returns
returns g c = λ order described mode olds news out report_out result good h.
    ok_or_lacks c.good_texts_are_accepted.ensures c.groups_have_no_faults.ensures.group c.reads_are_bytes.ensures g.R.Read.remaining (IsOrder order) described
    olds news good mode out report_out result h
