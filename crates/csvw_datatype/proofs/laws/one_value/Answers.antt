use Rattle.csvw_datatype.proofs.LawLemmas as law
use Rattle.csvw_datatype.proofs.laws.one_value.Goals as goal

pub returns : goal.returns
returns c = law.one_value c.one_number.ensures c.one_date.ensures.same c.one_moment.ensures.same
