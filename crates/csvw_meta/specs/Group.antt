-- The tables of a group of a document, and its faults (Metadata Vocabulary for Tabular Data, section 5.3).
use Rattle.std.specs.Prelude.{ℕ, List, [], ◌++◌, None, codes, map, ◌∷◌}
use Rattle.serde_json.specs.Data.{Data}
use Rattle.csvw_iri.specs.Link.{iri_of}
use Rattle.csvw_description.specs.declared.description.Description.{Description}
use Rattle.csvw_meta_core.specs.declared.fault.MetaCode.TheVariants.{DuplicateTable}
use Rattle.csvw_meta_core.specs.declared.fault.MetaFault.{MetaFault}
use Rattle.csvw_meta_core.specs.Pointer.{below, item_at}
use Rattle.csvw_meta_core.specs.Read.{Read, fine, ◌>>=◌, needed, optional}
use Rattle.csvw_meta_core.specs.Rules.{also, could_read_property}
use Rattle.csvw_meta_core.specs.Kinds.{fixed}
use Rattle.csvw_meta_core.specs.Links.{id}
use Rattle.csvw_meta_notes.specs.Unlisted.{all_notes, all_warnings}
use Rattle.csvw_meta_core.specs.declared.context.Context.{Context}
use Rattle.csvw_meta.specs.declared.group.GroupFound.{GroupFound}
use Rattle.csvw_meta.specs.declared.table.TableFound.{TableFound}
use Rattle.csvw_meta.specs.Body.{given_dialect, body}
use Rattle.csvw_meta.specs.ForeignKeys.{linked, linked_table}
use Rattle.csvw_meta.specs.References.{targets}
use Rattle.csvw_meta_keys.specs.declared.naming.Target.{Target}
use Rattle.csvw_description.specs.Inherited.{no_inherited}
use Rattle.csvw_meta_inherited.specs.Names.{inherited_names}
use Rattle.csvw_meta_notes.specs.Places.{place_of}
use Rattle.csvw_meta.specs.Repeated.{repeated}
use Rattle.csvw_meta_core.specs.Several.{several}
use Rattle.csvw_meta.specs.Table.{table}
use Rattle.csvw_meta.specs.declared.group.TheConstants.{MAX_TABLES}

-- the properties of a group
abbrev pub group_names : List (List ℕ)
group_names =
    codes "@context" ∷ codes "@id" ∷ codes "@type" ∷ codes "tables" ∷ codes "dialect" ∷ codes "tableSchema" ∷ codes "notes"
    ∷ codes "tableDirection" ∷ codes "transformations" ∷ []

-- a table's URL, made safe
abbrev pub url_of : TableFound → List ℕ
url_of t = iri_of t.table.url

-- No two tables have the same URL. Only tables whose URL could be read count, which the tables' own faults show.
abbrev pub url_faults : List ℕ → List MetaFault → List TableFound → List MetaFault
url_faults at faults ts =
    repeated (λ i. could_read_property faults (item_at at i) (codes "url"))
    (λ i. record { code = DuplicateTable; pointer = below (item_at at i) (codes "url") }) [] 0 (map url_of ts)

abbrev pub tables : Context → List ℕ → Data → Read (List TableFound)
tables context at d = also (several 1 MAX_TABLES (table context) at d) (url_faults at)

unfoldable pub group : Context → List ℕ → Data → Read GroupFound
group context at d = do
  type ← optional (fixed (codes "TableGroup")) at d (codes "@type")
  notes ← all_notes context.base context.language at d
  warnings ← all_warnings (group_names ++ inherited_names) (place_of 0 0) at d
  tables ← needed (tables context) [] at d (codes "tables")
  iri ← optional (id context.base) at d (codes "@id")
  given ← given_dialect context 0 warnings at d
  body ← body context 0 at d
  fine (record { id = iri; tables = tables; given = given; body = body; notes = notes })

-- the description of the parts of a group, whose foreign keys refer to these tables
abbrev pub described_among : List Target → GroupFound → Description
described_among targets group = record {
  id = group.id;
  tables = map (linked_table targets) group.tables;
  dialect = group.given.dialect;
  schema = linked targets group.body.schema group.body.keys;
  inherited = group.body.inherited;
  notes = group.notes;
  warnings = group.body.warnings ++ group.given.warnings;
}

abbrev pub description_of : GroupFound → Description
description_of group = described_among (targets group) group

abbrev pub no_group : Description
no_group = record { id = None; tables = []; dialect = None; schema = None; inherited = no_inherited; notes = []; warnings = [] }
