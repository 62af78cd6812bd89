-- The faults of a part come before those of the next ones. The warnings have none.
use Rattle.std.proofs.Common.{append_assoc, false}
use Rattle.std.proofs.lemmas.List.{append-nil}
use Rattle.serde_json.specs.View.{view}
use Rattle.csvw_meta_core.specs.Links.{no_url}
use Rattle.csvw_meta_core.specs.Pointer.{text_of}
use Rattle.csvw_meta.specs.Table.{table_of, table_others}
use Rattle.csvw_meta_faults.proofs.WarningsLemmas.{no_table_faults}
use Rattle.csvw_meta_faults.proofs.table.find_table_of.Goals as goal

pub returns : goal.returns
unfolding table_of
returns c = λ sole number.
    simp (no_table_faults sole number (text_of c.args.part.now.at) (view c.args.part.now.value.now), append_assoc, append-nil)
    (simp append_assoc at (rw (
      c.in_ok-find_given_dialect.ensures number
          (table_others sole number (text_of c.args.part.now.at) (view c.args.part.now.value.now)).value,
      c.in_ok-find_optional-2.ensures,
      c.in_ok-find_needed.ensures no_url,
      c.in_ok-find_property.ensures false,
      c.in_ok-find_all_notes.ensures c.args.context.now.language,
      c.in_ok-find_optional.ensures,
    )
    at (c.find_body.ensures number)))
