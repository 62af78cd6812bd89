use Rattle.csvw_datatype_core.proofs.EveryDay.{form_is_date, form_is_moment}
use Rattle.csvw_datatype_core.proofs.FormLemmas as law
use Rattle.csvw_datatype_core.proofs.lexical_date.date_forms.Goals as goal

pub returns-clause-day : goal.returns-clause-day
returns-clause-day c = law.date_is_form

pub returns-clause-moment : goal.returns-clause-moment
returns-clause-moment c = law.moment_is_form

pub returns-clause-is_day : goal.returns-clause-is_day
returns-clause-is_day c = form_is_date

pub returns-clause-is_moment : goal.returns-clause-is_moment
returns-clause-is_moment c = form_is_moment
