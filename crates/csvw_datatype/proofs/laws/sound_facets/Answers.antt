use Rattle.csvw_datatype.proofs.AgreementLemmas as law
use Rattle.csvw_datatype.proofs.laws.sound_facets.Goals as goal

pub returns-clause-lengths_apply : goal.returns-clause-lengths_apply
returns-clause-lengths_apply c = law.applies

pub returns-clause-lengths_agree : goal.returns-clause-lengths_agree
returns-clause-lengths_agree c = law.agree_lengths

pub returns-clause-bounds_agree : goal.returns-clause-bounds_agree
returns-clause-bounds_agree c = law.agree_bounds
