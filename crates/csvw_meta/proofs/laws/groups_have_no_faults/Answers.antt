-- There is a group exactly if the list of the faults is empty.
use Rattle.csvw_meta.specs.Document.{document_faults, judged}
use Rattle.csvw_meta.proofs.OverLemmas.{none_if_read, some_if_not_read}
use Rattle.csvw_meta.proofs.laws.groups_have_no_faults.Goals as goal

pub returns-clause-group : goal.returns-clause-group
returns-clause-group c = λ x. none_if_read (judged x)

pub returns-clause-none : goal.returns-clause-none
returns-clause-none c = λ x. some_if_not_read (judged x)

pub returns-clause-all : goal.returns-clause-all
returns-clause-all c = λ x. (document_faults x, λ f is. is)
