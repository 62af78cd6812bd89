-- What is seen of a column leaves out whether its values are titles of their rows.
use Rattle.std.proofs.Common.{[], codes, refl, sym, ◌∙◌}
use Rattle.serde_json.specs.View.{view}
use Rattle.csvw_meta_core.specs.Pointer.{text_of}
use Rattle.csvw_meta_core.specs.Links.{id}
use Rattle.csvw_meta_core.specs.Read.{optional, property}
use Rattle.csvw_meta_keys.specs.Described.{names_of}
use Rattle.csvw_meta_keys.specs.Keys.{keys}
use Rattle.csvw_meta_notes.specs.Places.{place_of}
use Rattle.csvw_meta.specs.Schema.{columns, schema_of}
use Rattle.csvw_meta_faults.proofs.ColumnsLemmas.{bare_titled}
use Rattle.csvw_meta_faults.proofs.seen_schema.schema_of_seen.Goals as goal

pub returns : goal.returns
unfolding schema_of
returns c = λ table.
    let context = c.args.context.now in
    let at = text_of c.args.part.now.at in
    let d = view c.args.part.now.value.now in
    let own = (optional (id context.base) at d (codes "@id")).value in
    let titles = names_of (keys context.profile context.base (place_of table 0) own at d).value.row_titles in
    let read = (property (columns context table) [] at d (codes "columns")).value in
    rw (
      c.schema_with.ensures,
      c.in_ok-columns.ensures table ∙ sym (bare_titled titles 0 read),
      c.in_ok-keys.ensures (place_of table 0),
      c.in_ok-id.ensures,
    )
    refl
