-- A word that is no resource, or none.
use Rattle.std.proofs.Common.{arith, Bor, List, ℕ}
use Rattle.std.proofs.lemmas.Grind.{common_steps}
use Rattle.std.proofs.lemmas.List.Folds.{list_all-map}
use Rattle.csvw_command_core.specs.Resources.{is_resource}
use Rattle.csvw_command_core.proofs.resources.wrong_words.Goals as goal

pub returns-in-Some : goal.returns-in-Some
returns-in-Some c = rw (list_all-map is_resource (λ (word : Bor (List ℕ)). word.now) c.args.words.now) (grind (arith, common_steps))

pub returns : goal.returns
returns c = rw (list_all-map is_resource (λ (word : Bor (List ℕ)). word.now) c.args.words.now) (grind (arith, common_steps))
