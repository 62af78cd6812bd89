-- One word more.
use Rattle.csvw_command_runs.proofs.ResourceLemmas.{names_next}
use Rattle.csvw_command_runs.proofs.resources.resource_files.Goals as goal

pub loop-word-preserved : goal.loop-word-preserved
loop-word-preserved c =
    names_next c.args.words.now c.loop-word.word-index _ c.loop-word.files.items c.push_resource.new.files.items c.loop-word-test.true c.loop-word.invariant
    c.in_ok-push_resource.ensures
