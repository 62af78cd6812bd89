-- A command with a subcommand: `Joins`.
use Rattle.std.specs.Prelude.{◌≡◌, false, Result, Ok}
use Rattle.std.specs.declared.alloc.AllocError.{AllocError}
use Rattle.clap.specs.Words.{app_of, with_subcommand}
use Rattle.clap.specs.declared.builder.command.Command.{Command}
use Rattle.clap.specs.declared.builder.command.Command.TheViews.{out-Command}

-- Both could be made, and the command has the subcommand, if that has no argument for all subcommands.
pub record Joins (command subcommand : Result Command AllocError) (made : Command) : Type 0 where
  pub outer : Command
  pub inner : Command
  pub outer_is : command ≡ Ok outer
  pub inner_is : subcommand ≡ Ok inner
  pub joined : (out-Command inner).has_globals ≡ false → app_of made ≡ with_subcommand (app_of outer) (app_of inner).top
