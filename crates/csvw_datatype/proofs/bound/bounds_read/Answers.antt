use Rattle.csvw_datatype.proofs.BoundLemmas as law
use Rattle.csvw_datatype.proofs.bound.bounds_read.Goals as goal

pub returns-clause-text : goal.returns-clause-text
returns-clause-text c = law.bound_given c.values_read.ensures.number c.values_read.ensures.day c.values_read.ensures.moment c.one_number.ensures

pub returns-clause-fits : goal.returns-clause-fits
returns-clause-fits c =
    law.bound_fits c.values_read.ensures.number c.values_read.ensures.day c.values_read.ensures.moment c.one_number.ensures
    c.values_of_texts.ensures.in_type

pub returns-clause-whole_fits : goal.returns-clause-whole_fits
returns-clause-whole_fits c = law.whole_fits c.canonical_texts_stay.ensures
