-- By the file that the text begins.
use Rattle.csvw_group_laws.proofs.Accepting.{are_accepted}
use Rattle.csvw_group_laws.proofs.laws.good_texts_are_accepted.Goals as goal

pub returns : goal.returns
returns c = are_accepted c.have_one_list.ensures c.first_begin.ensures c.first_stay.ensures c.files_have_no_stop.ensures
