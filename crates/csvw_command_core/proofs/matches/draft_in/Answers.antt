-- The words of a draft.
use Rattle.std.proofs.Common.{codes, refl, sym, ◌∙◌}
use Rattle.clap.specs.Words.{found_of}
use Rattle.clap.proofs.WalkLemmas.{first_value-rows}
use Rattle.csvw_command_core.proofs.matches.draft_in.Goals as goal

pub returns : goal.returns
returns c = record {
  name_is = refl;
  base_is = sym (first_value-rows (found_of c.args.matches.now) (codes "base")) ∙ sym c.get_str.ensures;
  files_are = c.in_ok-texts_in.ensures;
  profile_is = sym (first_value-rows (found_of c.args.matches.now) (codes "profile")) ∙ sym c.get_str-2.ensures;
}
