-- The words of a split.
use Rattle.std.proofs.Common.{codes, refl, sym, ◌∙◌}
use Rattle.clap.specs.Words.{found_of}
use Rattle.clap.proofs.WalkLemmas.{first_value-rows}
use Rattle.csvw_command_core.proofs.matches.split_in.Goals as goal

pub returns : goal.returns
returns c =
    let found = found_of c.args.matches.now in
    record {
      name_is = refl;
      base_is = sym (first_value-rows found (codes "base")) ∙ sym c.in-Some.ensures;
      meta_is = sym (first_value-rows found (codes "META")) ∙ sym c.in-Some-get_str.ensures;
      files_are = c.in_ok-files.ensures;
      profile_is = sym (first_value-rows found (codes "profile")) ∙ sym c.get_str-4.ensures;
      resources_are = c.in_ok-resources.ensures;
      word = c.in-Some-get_str-2.parts.now;
      word_is = sym (first_value-rows found (codes "parts")) ∙ sym c.in-Some-get_str-2.ensures;
      parts_are = c.count_of.ensures;
    }
