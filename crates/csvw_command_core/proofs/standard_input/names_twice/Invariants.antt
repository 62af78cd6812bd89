-- How often standard input was met.
use Rattle.std.proofs.Common.{◌≡◌, ◌∷◌, length, map, take}
use Rattle.std.specs.Prelude.{filter, if◌then◌else◌}
use Rattle.csvw_command_core.specs.StandardInput.{is_standard}
use Rattle.csvw_command_core.proofs.standard_input.names_twice.Given as goal

abbrev pub invariant-loop-file : goal.invariant-loop-file
invariant-loop-file l =
    length (filter is_standard (l.meta ∷ map (λ file. file.now) (take l.file-index l.files))) ≡ (if l.seen then 1 else 0)
