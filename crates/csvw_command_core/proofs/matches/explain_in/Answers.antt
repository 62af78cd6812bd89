-- The code of the words, if there is one.
use Rattle.std.proofs.Common.{codes, refl, sym, ◌∙◌}
use Rattle.clap.specs.Words.{found_of}
use Rattle.clap.proofs.WalkLemmas.{first_value-rows}
use Rattle.csvw_command_core.proofs.matches.explain_in.Goals as goal

pub returns : goal.returns
returns c = record {
  name_is = refl;
  code_is = sym (first_value-rows (found_of c.args.matches.now) (codes "CODE")) ∙ sym c.get_str.ensures;
}
