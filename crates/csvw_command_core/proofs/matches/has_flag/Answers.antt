-- A flag's row comes from the words.
use Rattle.std.proofs.Common.{rules, ap, sym, ◌≡◌, ◌∙◌, None, Some}
use Rattle.clap.specs.Words.{found_of}
use Rattle.clap.specs.declared.parser.matches.ValueSource.TheVariants.{CommandLine, DefaultValue}
use Rattle.csvw_command_core.specs.Asked.{is_from_words}
use Rattle.csvw_command_core.proofs.Asking.{flag_known}
use Rattle.csvw_command_core.proofs.matches.has_flag.Goals as goal

pub returns-in-Some-CommandLine : goal.returns-in-Some-CommandLine
returns-in-Some-CommandLine c =
    let is : c.value_source.result ≡ Some CommandLine = search rules in
    ap is_from_words (sym is) ∙ flag_known (found_of c.args.matches.now) c.args.id.now c.value_source.result c.value_source.ensures

pub returns-in-Some-DefaultValue : goal.returns-in-Some-DefaultValue
returns-in-Some-DefaultValue c =
    let is : c.value_source.result ≡ Some DefaultValue = search rules in
    ap is_from_words (sym is) ∙ flag_known (found_of c.args.matches.now) c.args.id.now c.value_source.result c.value_source.ensures

pub returns-in-None : goal.returns-in-None
returns-in-None c =
    let is : c.value_source.result ≡ None = search rules in
    ap is_from_words (sym is) ∙ flag_known (found_of c.args.matches.now) c.args.id.now c.value_source.result c.value_source.ensures
