use Rattle.csvw_datatype_core.proofs.OneText as law
use Rattle.csvw_datatype_core.proofs.lexical_date.one_moment_text.Goals as goal

pub returns : goal.returns
returns c = law.one_moment_text
