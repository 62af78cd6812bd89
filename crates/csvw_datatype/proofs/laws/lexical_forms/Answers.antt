use Rattle.csvw_datatype.proofs.OneForm as law
use Rattle.csvw_datatype.proofs.laws.lexical_forms.Goals as goal

pub returns-clause-only : goal.returns-clause-only
returns-clause-only c = law.forms c.number_forms.ensures.form c.number_forms.ensures.bytes c.date_forms.ensures.day c.date_forms.ensures.moment

pub returns-clause-lexical : goal.returns-clause-lexical
returns-clause-lexical c = law.have_forms c.number_forms.ensures.lexical c.date_forms.ensures.is_day c.date_forms.ensures.is_moment
