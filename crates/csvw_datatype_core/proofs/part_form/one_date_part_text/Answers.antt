use Rattle.csvw_datatype_core.proofs.OneDayText as law
use Rattle.csvw_datatype_core.proofs.part_form.one_date_part_text.Goals as goal

pub returns : goal.returns
returns c = law.one_date_part_text
