-- The shell of the words.
use Rattle.std.proofs.Common.{rules, codes, refl, sym, ◌≡◌, ◌∙◌, Some}
use Rattle.clap.specs.Words.{first_value, found_of}
use Rattle.clap.proofs.WalkLemmas.{first_value-rows}
use Rattle.csvw_command_core.proofs.matches.completions_in.Goals as goal

pub returns : goal.returns
returns c =
    let found = found_of c.args.matches.now in
    let shell : first_value found (codes "SHELL") ≡ Some c.in_ok-get_str.field-0.now = search rules in
    record { name_is = refl; shell_is = sym (first_value-rows found (codes "SHELL")) ∙ shell }
