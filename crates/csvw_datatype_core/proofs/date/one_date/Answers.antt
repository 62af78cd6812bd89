use Rattle.csvw_datatype_core.proofs.LexicalDateLemmas.{date_in_range}
use Rattle.csvw_datatype_core.proofs.OneValue as law
use Rattle.csvw_datatype_core.proofs.date.one_date.Goals as goal

pub returns-clause-same : goal.returns-clause-same
returns-clause-same c = law.one_date

pub returns-clause-in_range : goal.returns-clause-in_range
returns-clause-in_range c = date_in_range
