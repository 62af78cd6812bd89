use Rattle.csvw_datatype_core.proofs.DateTimeLemmas.{is_value, in_range}
use Rattle.csvw_datatype_core.proofs.date_time.second_at.Goals as goal

pub returns-clause-value : goal.returns-clause-value
returns-clause-value c = is_value c.args.bytes.now c.moment_at.result c.moment_at.ensures

pub returns-clause-range : goal.returns-clause-range
returns-clause-range c = in_range c.args.bytes.now c.moment_at.result c.moment_at.ensures
