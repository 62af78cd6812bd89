-- One pass over the text decides both.
use Rattle.csvw_meta.proofs.VariableLemmas as law
use Rattle.csvw_meta.proofs.laws.variables_are_names.Goals as goal

pub returns : goal.returns
returns c = λ text. (law.name_of text, law.variable_of text)
