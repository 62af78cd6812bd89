-- What is made, with the arguments that are left, is the whole subcommand.
use Rattle.std.proofs.Common.{◌≡◌, drop, false}
use Rattle.clap.specs.Words.{app_of, new_app}
use Rattle.clap.specs.declared.builder.command.Command.TheViews.{out-Command}
use Rattle.csvw_command_core.specs.Table.{with_arguments}
use Rattle.csvw_command_core.proofs.subcommands.subcommand_of.Given as goal

abbrev pub invariant-loop-added : goal.invariant-loop-added
invariant-loop-added l =
    (with_arguments (app_of l.command) (drop l.added-index l.arguments) ≡ with_arguments (new_app l.name) l.arguments)
    × ((out-Command l.command).has_globals ≡ false)
