-- What a value describes at the URL of its document, and its faults: `described` (Metadata Vocabulary for Tabular Data, section
-- 5).
use Rattle.std.specs.Prelude.{ℕ, List, [], ◌∷◌, codes, is_some, if◌then◌else◌, None, true}
use Rattle.serde_json.specs.Data.{Data, null, boolean, number, string, array, object}
use Rattle.serde_json.specs.Find.{get}
use Rattle.url.specs.Parts.{Parts}
use Rattle.csvw_description.specs.declared.description.Description.{Description}
use Rattle.csvw_meta_core.specs.Read.{Read, fine, ◌>>=◌, under}
use Rattle.csvw_meta_core.specs.Rules.{also}
use Rattle.csvw_meta_core.specs.declared.context.Context.{Context}
use Rattle.csvw_meta.specs.declared.group.GroupFound.{GroupFound}
use Rattle.csvw_meta.specs.declared.table.TableFound.{TableFound}
use Rattle.csvw_meta_core.specs.declared.profile.Profile.{Profile}
use Rattle.csvw_meta_core.specs.Context.{context, in_profile}
use Rattle.csvw_meta.specs.Group.{group, description_of, no_group}
use Rattle.csvw_description.specs.Inherited.{no_inherited}
use Rattle.csvw_meta.specs.References.{table_at, reference_faults}
use Rattle.csvw_meta.specs.Table.{table_of}
use Rattle.csvw_meta.specs.UsableContext.{usable_context}

-- ---- within a context

-- the group of one table, with nothing else
abbrev pub group_of : TableFound → GroupFound
group_of table = record {
  id = None;
  tables = table ∷ [];
  given = record { dialect = None; warnings = [] };
  body = record { schema = None; keys = None; inherited = no_inherited; warnings = [] };
  notes = [];
}

abbrev pub sole_table : Context → List ℕ → Data → Read GroupFound
sole_table context at d = under group_of (table_of context true 1 at d)

-- A document with `tables` is a group.
abbrev pub parts : Context → List ℕ → Data → Read GroupFound
parts context at d = if is_some (get (codes "tables") d) then group context at d else sole_table context at d

-- What the keys of its schemas name exists.
abbrev pub within : Context → List ℕ → Data → Read Description
within context at d = under description_of (also (parts context at d) (reference_faults (table_at (is_some (get (codes "tables") d)) at) at))

-- ---- at the document's own URL

-- the parts of a document within its context; a value that is not an object has none
abbrev pub described_within : List ℕ → Data → Context → Read Description
described_within at (object ms) c = within c at (object ms)
described_within at null c = fine no_group
described_within at (boolean b) c = fine no_group
described_within at (number n) c = fine no_group
described_within at (string s) c = fine no_group
described_within at (array ds) c = fine no_group

-- What the value describes if the document may use what the profile has. The faults are those of the context, and then those of the parts
-- within the context as far as it could be read.
abbrev pub described : Profile → Parts → List ℕ → Data → Read Description
described profile base at d = do
  own ← context base at d
  described_within at d (in_profile profile (usable_context base at d))
