-- The faults of a part come before those of the next ones.
use Rattle.std.proofs.Common.{append_assoc, None}
use Rattle.std.proofs.lemmas.List.{append-nil}
use Rattle.csvw_meta_datatype.specs.Numbers.{number_parts}
use Rattle.csvw_meta_faults_parts.proofs.number.find_number_parts.Goals as goal

pub returns : goal.returns
unfolding number_parts
returns c =
    simp append-nil (simp append_assoc at (rw ((c.in_ok-find_property-2.ensures 46), (c.in_ok-find_property.ensures None)) at c.find_optional.ensures))
