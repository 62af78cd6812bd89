-- The faults of a part come before those of the next ones.
use Rattle.std.proofs.Common.{append_assoc, ◌++◌, codes}
use Rattle.serde_json.specs.View.{view}
use Rattle.csvw_meta_core.specs.Links.{id}
use Rattle.csvw_meta_core.specs.Pointer.{text_of}
use Rattle.csvw_meta_core.specs.Read.{optional}
use Rattle.std.proofs.lemmas.List.{append-nil}
use Rattle.csvw_meta.specs.Schema.{schema_of}
use Rattle.csvw_meta_inherited.specs.Names.{inherited_names}
use Rattle.csvw_meta_notes.specs.Places.{place_of}
use Rattle.csvw_meta.specs.Schema.{schema_names}
use Rattle.csvw_meta_faults.proofs.schema.find_schema_of.Goals as goal

pub returns : goal.returns
unfolding schema_of
returns c = λ table.
    let own = (optional (id c.args.context.now.base) (text_of c.args.part.now.at) (view c.args.part.now.value.now) (codes "@id")).value in
    simp (append_assoc, append-nil)
    (simp append_assoc at (rw (
      (c.in_ok-find_inherited.ensures table 0),
      (c.in_ok-find_columns.ensures table),
      (c.in_ok-find_unlisted.ensures c.args.context.now.language (schema_names ++ inherited_names) (place_of table 0)),
      c.in_ok-find_optional-2.ensures,
      c.in_ok-find_optional.ensures,
    ) at (c.find_keys.ensures (place_of table 0) own)))
