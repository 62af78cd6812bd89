-- A letter at the end is left out, and a text that doesn't end with one stays.
use Rattle.std.proofs.Common.{rules, sym, ◌∙◌}
use Rattle.csvw_datatype_core.specs.StampFormats.{letter_byte}
use Rattle.csvw_datatype_core.proofs.StampFormatLemmas.{kept, removed_from}
use Rattle.csvw_datatype_core.proofs.stamp_format.without.Goals as goal

pub loop-front-preserved : goal.loop-front-preserved
loop-front-preserved c = (
  search rules,
  removed_from (letter_byte c.args.letter) c.args.text.now c.loop-front.kept.now c.in-Some.front.now c.in-Some.ensures c.loop-front.invariant.1,
)

pub returns-in-None : goal.returns-in-None
returns-in-None c = sym (kept (letter_byte c.args.letter) c.loop-front.kept.now c.in-None.ensures) ∙ c.loop-front.invariant.1
