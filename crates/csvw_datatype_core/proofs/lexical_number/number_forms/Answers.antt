use Rattle.csvw_datatype_core.proofs.EveryDay.{form_is_number}
use Rattle.csvw_datatype_core.proofs.FormLemmas as law
use Rattle.csvw_datatype_core.proofs.lexical_number.number_forms.Goals as goal

pub returns-clause-form : goal.returns-clause-form
returns-clause-form c = law.number_is_form

pub returns-clause-lexical : goal.returns-clause-lexical
returns-clause-lexical c = form_is_number

pub returns-clause-bytes : goal.returns-clause-bytes
returns-clause-bytes c = law.number_in_bytes
