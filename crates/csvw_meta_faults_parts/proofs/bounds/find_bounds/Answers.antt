-- The faults of a part come before those of the next ones.
use Rattle.std.proofs.Common.{append_assoc, None}
use Rattle.std.proofs.lemmas.List.{append-nil}
use Rattle.csvw_meta_datatype.specs.Bounds.{bounds}
use Rattle.csvw_meta_faults_parts.proofs.bounds.find_bounds.Goals as goal

pub returns : goal.returns
unfolding bounds
returns c =
    simp append-nil (simp append_assoc at (rw (
      (c.in_ok-find_property-5.ensures None),
      (c.in_ok-find_property-4.ensures None),
      (c.in_ok-find_property-3.ensures None),
      (c.in_ok-find_property-2.ensures None),
      (c.in_ok-find_property.ensures None),
    )
    at (c.find_property-6.ensures None)))
