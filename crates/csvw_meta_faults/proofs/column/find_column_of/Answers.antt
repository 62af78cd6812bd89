-- The faults of a part come before those of the next ones.
use Rattle.std.proofs.Common.{append_assoc, ◌++◌, false}
use Rattle.std.proofs.lemmas.List.{append-nil}
use Rattle.csvw_meta.specs.Column.{column_of}
use Rattle.csvw_meta_inherited.specs.Names.{inherited_names}
use Rattle.csvw_meta_notes.specs.Places.{place_of}
use Rattle.csvw_meta.specs.Column.{column_names}
use Rattle.csvw_meta_faults.proofs.column.find_column_of.Goals as goal

pub returns : goal.returns
unfolding column_of
returns c = λ table number.
    simp (append_assoc, append-nil)
    (simp append_assoc at (rw (
      (c.in_ok-find_titles.ensures c.args.context.now.language),
      c.in_ok-find_name.ensures,
      (c.in_ok-find_unlisted.ensures c.args.context.now.language (column_names ++ inherited_names) (place_of table number)),
      (c.in_ok-find_property-2.ensures false),
      (c.in_ok-find_property.ensures false),
      c.in_ok-find_optional-2.ensures,
      c.in_ok-find_optional.ensures,
    ) at (c.find_inherited.ensures table number)))
