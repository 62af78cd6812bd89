-- How the words ask for a report to be shown.
use Rattle.std.proofs.Common.{codes, sym, ◌∙◌}
use Rattle.clap.specs.Words.{found_of}
use Rattle.clap.proofs.WalkLemmas.{first_value-rows}
use Rattle.csvw_command_core.proofs.matches.reporting_in.Goals as goal

pub returns : goal.returns
returns c =
    let found = found_of c.args.matches.now in
    record {
      form_is = sym (first_value-rows found (codes "report")) ∙ sym c.get_str.ensures;
      color_is = sym (first_value-rows found (codes "color")) ∙ sym c.get_str-2.ensures;
      all_is = c.has_flag.ensures;
      strict_is = c.has_flag-2.ensures;
    }
