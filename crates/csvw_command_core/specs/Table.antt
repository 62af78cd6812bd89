-- The rows of the arguments of subcommands, as clap reads what is made of them: `rule_of_argument`, `with_arguments`.
use Rattle.std.specs.Prelude.{List, [], ◌∷◌, Some}
use Rattle.clap.specs.Words.{App, Rule, new_rule, with_rule}
use Rattle.clap.specs.Lexer.{usize_max}
use Rattle.clap.specs.declared.builder.action.ArgAction.TheVariants.{Append, SetTrue}
use Rattle.csvw_command_core.specs.declared.arguments.Argument.{Argument}
use Rattle.csvw_command_core.specs.declared.arguments.Form.{Form}
use Rattle.csvw_command_core.specs.declared.arguments.Form.TheVariants.{Flag, Value, Values, Word, Words}

-- an argument of this form
abbrev pub with_form : Form → Rule → Rule
with_form Word r = r
with_form Words r = record r { range = Some (record { start_inclusive = 1; end_inclusive = usize_max }) }
with_form Flag r = record r { long = Some r.id; action = Some SetTrue }
with_form (Value name) r = record r { long = Some r.id; value_names = 1 }
with_form (Values name) r = record r { long = Some r.id; value_names = 1; action = Some Append }

-- the argument of a row
abbrev pub rule_of_argument : Argument → Rule
rule_of_argument a = with_form a.form (record (new_rule a.id.now) { required = a.is_required })

-- a command with these arguments too
abbrev pub with_arguments : App → List Argument → App
with_arguments app [] = app
with_arguments app (a ∷ rest) = with_arguments (with_rule app (rule_of_argument a)) rest
