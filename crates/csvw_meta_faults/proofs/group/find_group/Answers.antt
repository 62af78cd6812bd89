-- The faults of a part come before those of the next ones. The warnings have none.
use Rattle.std.proofs.Common.{◌++◌, append_assoc}
use Rattle.std.proofs.lemmas.List.{append-nil}
use Rattle.serde_json.specs.View.{view}
use Rattle.csvw_meta_core.specs.Pointer.{text_of}
use Rattle.csvw_meta_inherited.specs.Names.{inherited_names}
use Rattle.csvw_meta_notes.specs.Places.{place_of}
use Rattle.csvw_meta_notes.specs.Unlisted.{all_warnings}
use Rattle.csvw_meta.specs.Group.{group, group_names}
use Rattle.csvw_meta_faults_core.specs.NoFaults.{all_warnings_none}
use Rattle.csvw_meta_faults.proofs.group.find_group.Goals as goal

pub returns : goal.returns
unfolding group
returns c =
    let at = text_of c.args.part.now.at in
    let d = view c.args.part.now.value.now in
    let names = group_names ++ inherited_names in
    simp (all_warnings_none names (place_of 0 0) at d, append_assoc, append-nil)
    (simp append_assoc at (rw (
      c.in_ok-find_given_dialect.ensures 0 (all_warnings names (place_of 0 0) at d).value,
      c.in_ok-find_optional-2.ensures,
      c.in_ok-find_tables.ensures,
      c.in_ok-find_all_notes.ensures c.args.context.now.language,
      c.in_ok-find_optional.ensures,
    ) at (c.find_body.ensures 0)))
