-- The files of the words in front were added.
use Rattle.std.proofs.Common.{◌≡◌, flat_map, map, take}
use Rattle.csvw_command_runs.specs.Resources.{named, pair_of}
use Rattle.csvw_command_runs.proofs.resources.resource_files.Given as goal

abbrev pub invariant-loop-word : goal.invariant-loop-word
invariant-loop-word l = map pair_of l.files.items ≡ flat_map named (map (λ word. word.now) (take l.word-index l.words))
