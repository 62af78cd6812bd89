-- The types are those of the profile.
use Rattle.csvw_meta_faults_parts.proofs.based.faults_of_any.Goals as goal

pub returns : goal.returns
returns c = λ id place.
    rw (c.as_slice-2.ensures, c.in_ok-lists.ensures id place, c.as_slice.ensures.value, c.in_ok-simples.ensures) at c.of_any.ensures
