use Rattle.csvw_datatype.proofs.OneForm as law
use Rattle.csvw_datatype.proofs.laws.one_form.Goals as goal

pub returns : goal.returns
returns c = law.one_form c.one_number_text.ensures c.one_date_text.ensures c.one_moment_text.ensures
