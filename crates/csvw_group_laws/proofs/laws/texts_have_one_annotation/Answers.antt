-- By one cell after the other.
use Rattle.csvw_group_laws.proofs.OneTable.{tables_are_one}
use Rattle.csvw_group_laws.proofs.laws.texts_have_one_annotation.Goals as goal

pub returns : goal.returns
returns c = tables_are_one c.columns_of_ready_tables_are_sound.ensures c.one_value.ensures c.value_or_code.ensures c.one_code.ensures c.have_one_list.ensures
