-- The bytes were fed, the front was noted, and a cut was added.
use Rattle.std.proofs.Common.{◌++◌}
use Rattle.csvw_split.proofs.cuts.FileCuts.step.Goals as goal

pub returns-in-Ok-clause-cuts : goal.returns-in-Ok-clause-cuts
returns-in-Ok-clause-cuts c = λ t text h.
    let later = text ++ c.args.bytes.now in
    c.in-Ok.ensures.cuts t later (c.note_front.ensures.cuts t later (c.in_ok-feed.ensures.cuts t text h))
