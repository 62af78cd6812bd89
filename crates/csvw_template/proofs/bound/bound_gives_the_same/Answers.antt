-- The two laws.
use Rattle.csvw_template.proofs.BoundLemmas as lemmas
use Rattle.csvw_template.proofs.bound.bound_gives_the_same.Goals as goal

pub returns-clause-same : goal.returns-clause-same
returns-clause-same c = lemmas.bound_gives_the_same

pub returns-clause-constant : goal.returns-clause-constant
returns-clause-constant c = lemmas.constant_gives_the_same
