-- The faults of a part come before those of the next ones.
use Rattle.std.proofs.Common.{append_assoc, []}
use Rattle.std.proofs.lemmas.List.{append-nil}
use Rattle.csvw_meta_keys.specs.Keys.{keys}
use Rattle.csvw_meta_faults_parts.proofs.keys.find_keys.Goals as goal

pub returns : goal.returns
unfolding keys
returns c = λ place id.
    simp append-nil (simp append_assoc at (rw (c.in_ok-find_property-2.ensures [], c.in_ok-find_property.ensures []) at (c.find_foreign_keys.ensures place)))
