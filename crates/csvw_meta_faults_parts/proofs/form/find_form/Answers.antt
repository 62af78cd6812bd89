-- The faults of a part come before those of the next ones.
use Rattle.std.proofs.Common.{append_assoc, None, [], ◌++◌, codes}
use Rattle.std.proofs.lemmas.List.{append-nil}
use Rattle.csvw_meta_datatype.specs.Datatypes.{form}
use Rattle.serde_json.specs.View.{view}
use Rattle.csvw_meta_core.specs.Links.{id}
use Rattle.csvw_meta_core.specs.Pointer.{text_of}
use Rattle.csvw_meta_core.specs.Read.{optional}
use Rattle.csvw_meta_datatype.specs.Names.{datatype_names}
use Rattle.csvw_meta_faults_parts.proofs.form.find_form.Goals as goal

pub returns : goal.returns
unfolding form
returns c = λ place.
    simp (append_assoc, append-nil) (simp append_assoc at (rw (
      (c.in_ok-find_unlisted.ensures None (datatype_names ++ []) place),
      c.in_ok-find_optional-2.ensures,
      c.in_ok-find_optional.ensures,
    )
    at (c.find_based.ensures (optional (id c.args.base.now) (text_of c.args.part.now.at) (view c.args.part.now.value.now) (codes "@id")).value place)))
