-- The parts of the text are those of the definition.
use Rattle.csvw_datatype_core.proofs.ExponentLemmas.{parts_are}
use Rattle.csvw_datatype_core.proofs.number_pattern.at_first_e.Goals as goal

pub returns : goal.returns
returns c = parts_are c.args.text.now c.split_once.result c.utf8.text c.split_once.ensures.cases
