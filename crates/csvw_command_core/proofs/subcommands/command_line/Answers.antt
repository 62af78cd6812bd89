-- The command line, as clap reads it: the command, with one subcommand after the other.
use Rattle.std.proofs.Common.{ap, codes, true, ◌≡◌, ◌∙◌}
use Rattle.clap.specs.Words.{app_of, new_app}
use Rattle.clap.specs.Simple.{app_of_fields, on_top}
use Rattle.csvw_command_core.specs.Asked.{bare_app, program_app}
use Rattle.csvw_command_core.proofs.Joining.{joined}
use Rattle.csvw_command_core.proofs.subcommands.command_line.Goals as goal

pub returns : goal.returns
unfolding program_app
returns c =
    let named : app_of c.about.result ≡ new_app (codes "csvw") = ap app_of_fields c.about.ensures ∙ c.new.ensures.app in
    let taught = ap app_of_fields c.after_help.ensures ∙ named in
    let versioned = ap app_of_fields c.version.ensures ∙ ap (on_top (λ s. record s { has_version = true })) taught in
    let needs = ap app_of_fields c.subcommand_required.ensures ∙ ap (on_top (λ s. record s { subcommand_required = true })) versioned in
    let bare : app_of c.arg_required_else_help-command.result ≡ bare_app = ap app_of_fields c.arg_required_else_help-command.ensures
    ∙ ap (on_top (λ s. record s { arg_required_else_help = true })) needs in
    let one = joined _ _ _ _ _ bare c.validate_command.ensures.app c.validate_command.ensures.local c.with-command.ensures in
    let two = joined _ _ _ _ _ one c.convert_command.ensures.app c.convert_command.ensures.local c.with-command-2.ensures in
    let three = joined _ _ _ _ _ two c.plain_command.ensures.app c.plain_command.ensures.local c.with-command-3.ensures in
    let four = joined _ _ _ _ _ three c.check_command.ensures.app c.check_command.ensures.local c.with-command-4.ensures in
    let five = joined _ _ _ _ _ four c.explain_command.ensures.app c.explain_command.ensures.local c.with-command-5.ensures in
    let six = joined _ _ _ _ _ five c.inspect_command.ensures.app c.inspect_command.ensures.local c.with-command-6.ensures in
    let seven = joined _ _ _ _ _ six c.draft_command.ensures.app c.draft_command.ensures.local c.with-command-7.ensures in
    let eight = joined _ _ _ _ _ seven c.split_command.ensures.app c.split_command.ensures.local c.with-command-8.ensures in
    let nine = joined _ _ _ _ _ eight c.keys_command.ensures.app c.keys_command.ensures.local c.with-command-9.ensures in
    let ten = joined _ _ _ _ _ nine c.report_command.ensures.app c.report_command.ensures.local c.with-command-10.ensures in
    let eleven = joined _ _ _ _ _ ten c.completions_command.ensures.app c.completions_command.ensures.local c.with-command-11.ensures in
    joined _ _ _ _ _ eleven c.manual_command.ensures.app c.manual_command.ensures.local c.with.ensures
