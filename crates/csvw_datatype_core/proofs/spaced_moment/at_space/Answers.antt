-- The parts of the text are those of the definition.
use Rattle.std.proofs.Common.{lit<}
use Rattle.std.proofs.lemmas.Str.Pattern.{split_parts}
use Rattle.csvw_datatype_core.proofs.SpacedLemmas.{split_is}
use Rattle.csvw_datatype_core.proofs.spaced_moment.at_space.Goals as goal

pub returns : goal.returns
returns c =
    split_is c.args.text.now c.split_once.result
    (split_parts 32 c.args.text.now c.split_once.result c.split_once.ensures.cases (lit< tt))
