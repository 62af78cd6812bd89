-- The reading of a text is that of the function, and no other.
use Rattle.csvw_template.proofs.ReadingLemmas as law
use Rattle.csvw_template.proofs.template.texts_have_one_reading.Goals as goal

pub returns-clause-reading : goal.returns-clause-reading
returns-clause-reading c = law.reading

pub returns-clause-only : goal.returns-clause-only
returns-clause-only c = law.only_reading
