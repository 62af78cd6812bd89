-- The faults of a part come before those of the next ones.
use Rattle.std.proofs.Common.{append_assoc, []}
use Rattle.std.proofs.lemmas.List.{append-nil}
use Rattle.csvw_meta_keys.specs.References.{reference_of}
use Rattle.csvw_meta_faults_parts.proofs.reference.find_reference_of.Goals as goal

pub returns : goal.returns
unfolding reference_of
returns c = λ place.
    simp append-nil (simp append_assoc at (rw (c.in_ok-find_table.ensures, c.in_ok-find_refused.ensures place, c.in_ok-find_schema.ensures)
    at (c.find_needed.ensures [])))
