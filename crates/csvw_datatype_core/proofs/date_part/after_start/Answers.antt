-- What is left after the start.
use Rattle.csvw_datatype_core.proofs.PartLemmas.{stripped_start}
use Rattle.csvw_datatype_core.proofs.date_part.after_start.Goals as goal

pub returns : goal.returns
returns c = stripped_start c.args.start.now c.args.text.now c.strip_prefix.result c.strip_prefix.ensures.cases
