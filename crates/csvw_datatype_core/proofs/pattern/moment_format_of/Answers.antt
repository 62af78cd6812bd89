use Rattle.csvw_datatype_core.proofs.PatternLemmas.{moment_as}
use Rattle.csvw_datatype_core.proofs.pattern.moment_format_of.Goals as goal

pub returns-clause-format : goal.returns-clause-format
returns-clause-format c = moment_as c.args.pattern.now c.of.result c.of.ensures
