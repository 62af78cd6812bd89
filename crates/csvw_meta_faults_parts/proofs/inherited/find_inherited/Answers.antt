-- The faults of a part come before those of the next ones.
use Rattle.std.proofs.Common.{append_assoc}
use Rattle.std.proofs.lemmas.List.{append-nil}
use Rattle.csvw_meta_inherited.specs.Inherited.{inherited}
use Rattle.csvw_meta_faults_parts.proofs.inherited.find_inherited.Goals as goal

pub returns : goal.returns
unfolding inherited
returns c = λ table column.
    simp (append_assoc, append-nil) (simp append_assoc at (rw (
      c.in_ok-find_optional-2.ensures,
      c.in_ok-find_optional.ensures,
      c.in_ok-find_cell_texts.ensures,
      (c.in_ok-find_datatype.ensures table column),
      c.in_ok-find_uri_templates.ensures,
    ) at c.find_optional-3.ensures))
