use Rattle.csvw_datatype_core.proofs.PatternLemmas.{time_as}
use Rattle.csvw_datatype_core.proofs.pattern.time_format_of.Goals as goal

pub returns-clause-format : goal.returns-clause-format
returns-clause-format c = time_as c.args.pattern.now c.of.result c.of.ensures
