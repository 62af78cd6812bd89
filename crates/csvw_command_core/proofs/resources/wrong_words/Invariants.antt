-- The words so far are resources.
use Rattle.std.proofs.Common.{◌≡◌, true, take, Bor, List, ℕ}
use Rattle.std.specs.List.{list_all}
use Rattle.csvw_command_core.specs.Resources.{is_resource}
use Rattle.csvw_command_core.proofs.resources.wrong_words.Given as goal

abbrev pub invariant-loop-word : goal.invariant-loop-word
invariant-loop-word l = list_all (λ (word : Bor (List ℕ)). is_resource word.now) (take l.word-index l.words) ≡ true
