-- A text has one annotated table.
use Rattle.csvw_join_laws.proofs.Taking.{find_rows}
use Rattle.csvw_join_laws.proofs.laws.find_rows.Goals as goal

pub returns : goal.returns
returns c = find_rows c.have_one_list.ensures c.texts_have_one_annotation.ensures c.rows_of_parts.ensures c.numbers_go_on.ensures
