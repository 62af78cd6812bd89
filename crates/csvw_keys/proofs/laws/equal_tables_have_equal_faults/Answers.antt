use Rattle.csvw_keys.proofs.OrderLemmas.{one_list}
use Rattle.csvw_keys.proofs.laws.equal_tables_have_equal_faults.Goals as goal

pub returns : goal.returns
returns c = λ rules tables others first second equal a b. one_list tables others equal c.sorts_to_one.ensures rules first second a b
