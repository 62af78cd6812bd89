use Rattle.csvw_datatype_core.proofs.OneNumberText as law
use Rattle.csvw_datatype_core.proofs.lexical_number.one_number_text.Goals as goal

pub returns : goal.returns
returns c = law.one_number_text
