use Rattle.csvw_datatype_core.proofs.PartFieldLemmas as law
use Rattle.csvw_datatype_core.proofs.fields.date_parts_have_fields.Goals as goal

pub returns-clause-fields : goal.returns-clause-fields
returns-clause-fields c = law.has_fields

pub returns-clause-form : goal.returns-clause-form
returns-clause-form c = law.form_has_fields
