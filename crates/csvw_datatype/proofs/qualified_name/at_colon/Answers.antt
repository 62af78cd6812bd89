-- The parts of the text are those of the definition.
use Rattle.std.proofs.Common.{lit<}
use Rattle.std.proofs.lemmas.Str.Pattern.{split_parts}
use Rattle.csvw_datatype.proofs.SplitLemmas.{parts_are}
use Rattle.csvw_datatype.proofs.qualified_name.at_colon.Goals as goal

pub returns : goal.returns
returns c =
    parts_are 58 c.args.text.now c.split_once.result
    (split_parts 58 c.args.text.now c.split_once.result c.split_once.ensures.cases (lit< tt))
