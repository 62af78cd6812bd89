-- By the law of one reading.
use Rattle.std.proofs.Common.{ap, sym}
use Rattle.csvw_template.specs.Reading.{template}
use Rattle.csvw_meta_inherited.specs.TemplateText.{told_template}
use Rattle.csvw_meta_inherited.proofs.laws.templates_are_read.Goals as goal

pub returns-clause-has_reading : goal.returns-clause-has_reading
returns-clause-has_reading c = λ text. (template text, c.texts_have_one_reading.ensures.reading text)

pub returns-clause-exact : goal.returns-clause-exact
returns-clause-exact c = λ at text answer reads. ap (told_template at) (sym (c.texts_have_one_reading.ensures.only text answer reads))
