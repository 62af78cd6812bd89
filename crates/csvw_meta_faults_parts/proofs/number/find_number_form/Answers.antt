-- The faults of a part come before those of the next ones.
use Rattle.std.proofs.Common.{append_assoc}
use Rattle.std.proofs.lemmas.List.{append-nil}
use Rattle.csvw_meta_datatype.specs.Numbers.{number_form}
use Rattle.csvw_meta_faults_parts.proofs.number.find_number_form.Goals as goal

pub returns : goal.returns
unfolding number_form
returns c = λ place.
    simp (append_assoc, append-nil) (simp append_assoc at (rw c.in_ok-find_lawful_number.ensures at (c.find_refused.ensures place)))
