-- One reader more is handed back.
use Rattle.csvw_command_runs.proofs.Opening.{closes_next}
use Rattle.csvw_command_runs.proofs.group.close_all.Goals as goal

pub loop-reader-preserved : goal.loop-reader-preserved
loop-reader-preserved g c =
    closes_next g.O.Opener.closes c.args.opener.now c.loop-reader.yielded c.loop-reader.opener c.in-Some.reader c.close.new.self c.loop-reader.invariant
    c.close.ensures
