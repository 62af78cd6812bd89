use Rattle.csvw_datatype.proofs.LawLemmas as law
use Rattle.csvw_datatype.proofs.laws.one_code.Goals as goal

pub returns : goal.returns
returns c = law.one_code c.one_number.ensures
