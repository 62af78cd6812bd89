-- The words of an inspection.
use Rattle.std.proofs.Common.{codes, refl, sym, ◌∙◌}
use Rattle.clap.specs.Words.{found_of}
use Rattle.clap.proofs.WalkLemmas.{first_value-rows}
use Rattle.csvw_command_core.proofs.matches.inspect_in.Goals as goal

pub returns : goal.returns
returns c =
    let found = found_of c.args.matches.now in
    record {
      name_is = refl;
      base_is = sym (first_value-rows found (codes "base")) ∙ sym c.get_str-2.ensures;
      meta_is = sym (first_value-rows found (codes "META")) ∙ sym c.in-Some.ensures;
      profile_is = sym (first_value-rows found (codes "profile")) ∙ sym c.get_str-3.ensures;
      resources_are = c.in_ok-resources.ensures;
      json_is = c.has_flag.ensures;
      explain_is = c.has_flag-2.ensures;
    }
