-- What is left before the ending.
use Rattle.csvw_datatype_core.proofs.PartLemmas.{stripped_ending}
use Rattle.csvw_datatype_core.proofs.date_part.before_ending.Goals as goal

pub returns : goal.returns
returns c = stripped_ending c.args.ending.now c.args.text.now c.strip_suffix.result c.strip_suffix.ensures.cases
