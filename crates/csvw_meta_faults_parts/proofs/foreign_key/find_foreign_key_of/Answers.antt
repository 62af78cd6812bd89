-- The faults of a part come before those of the next ones.
use Rattle.std.proofs.Common.{append_assoc, []}
use Rattle.std.proofs.lemmas.List.{append-nil}
use Rattle.csvw_meta_keys.specs.ForeignKeys.{foreign_key_of}
use Rattle.csvw_meta_faults_parts.proofs.foreign_key.find_foreign_key_of.Goals as goal

pub returns : goal.returns
unfolding foreign_key_of
returns c = λ place.
    simp append-nil (simp append_assoc at (rw ((c.in_ok-find_needed.ensures []), (c.in_ok-find_refused.ensures place)) at (c.find_reference.ensures place)))
