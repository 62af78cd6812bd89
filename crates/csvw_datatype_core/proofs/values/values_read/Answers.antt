use Rattle.csvw_datatype_core.proofs.MomentLemmas.{moment_given}
use Rattle.csvw_datatype_core.proofs.ValueLemmas as law
use Rattle.csvw_datatype_core.proofs.values.values_read.Goals as goal

pub returns-clause-number : goal.returns-clause-number
returns-clause-number c = law.number_given

pub returns-clause-day : goal.returns-clause-day
returns-clause-day c = law.date_given

pub returns-clause-moment : goal.returns-clause-moment
returns-clause-moment c = moment_given
