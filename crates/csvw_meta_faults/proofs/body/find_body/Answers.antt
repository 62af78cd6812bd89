-- The faults of a part come before those of the next ones.
use Rattle.std.proofs.Common.{append_assoc}
use Rattle.std.proofs.lemmas.List.{append-nil}
use Rattle.csvw_meta.specs.Body.{body}
use Rattle.csvw_meta_faults.proofs.body.find_body.Goals as goal

pub returns : goal.returns
unfolding body
returns c = λ table.
    simp (append_assoc, append-nil)
    (simp append_assoc at (rw (c.in_ok-find_inherited.ensures table 0) at (c.find_schema.ensures table)))
