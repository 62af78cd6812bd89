-- After all characters the groups are those of the text.
use Rattle.std.proofs.Common.{sym, ap, ◌∙◌, map-id, append-nil, []}
use Rattle.std.proofs.lemmas.Iterator.{YieldsList-from_chars}
use Rattle.std.proofs.lemmas.Iterator.Consumers.{YieldsList-end}
use Rattle.csvw_datatype_core.specs.NumberPatterns.{runs, no_runs}
use Rattle.csvw_datatype_core.proofs.number_pattern.runs_of.Goals as goal

pub returns : goal.returns
returns c =
    let end = YieldsList-end (YieldsList-from_chars c.args.text.now c.utf8.text cc) c.loop-c.yielded _ c.loop-c.yielded_by _ _ c.in-None.is
    c.next.ensures.steps in
    c.loop-c.invariant [] ∙ ap (runs c.args.rules.now no_runs) (append-nil _ ∙ sym (map-id c.loop-c.yielded) ∙ end.0)
