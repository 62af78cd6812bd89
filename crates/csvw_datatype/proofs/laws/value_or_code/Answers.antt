use Rattle.csvw_datatype.proofs.LawLemmas as law
use Rattle.csvw_datatype.proofs.laws.value_or_code.Goals as goal

pub returns : goal.returns
returns c = law.value_or_code c.one_number.ensures
