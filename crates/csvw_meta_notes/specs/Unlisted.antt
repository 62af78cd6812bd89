-- The properties of an object that aren't listed for its kind: `all_warnings` (Metadata Vocabulary for Tabular Data, sections 4.1
-- and 5.8). One with a colon in its name is a common property, which annotates the object. Any other is ignored with a warning.
use Rattle.std.specs.Prelude.{ℕ, List, ◌++◌, Option}
use Rattle.serde_json.specs.Data.{Data}
use Rattle.url.specs.Parts.{Parts}
use Rattle.csvw_fault.specs.declared.fault.Place.{Place}
use Rattle.csvw_fault.specs.declared.fault.Fault.{Fault}
use Rattle.csvw_description.specs.declared.note.Note.{Note}
use Rattle.csvw_meta_core.specs.declared.others.CommonProperty.TheVariants.{Allowed}
use Rattle.csvw_meta_core.specs.Others.{others}
use Rattle.csvw_meta_core.specs.Read.{Read, fine, ◌>>=◌}
use Rattle.csvw_meta_notes.specs.Annotations.{annotations, notes}
use Rattle.csvw_meta_notes.specs.Warnings.{annotation_warnings, note_warnings}

-- The annotations of schemas, columns, dialects and datatypes are checked but not kept.
unfoldable pub unlisted : Parts → Option (List ℕ) → List (List ℕ) → Place → List ℕ → Data → Read (List Fault)
unlisted base language names place at d = do
  judged ← annotations base language at d
  warnings ← others names Allowed place at d
  fine (warnings ++ annotation_warnings place d)

-- the annotations of a group or a table
unfoldable pub all_notes : Parts → Option (List ℕ) → List ℕ → Data → Read (List Note)
all_notes base language at d = do
  common ← annotations base language at d
  notes ← notes base language at d
  fine (common ++ notes)

-- the warnings on a group or a table, and on its annotations
unfoldable pub all_warnings : List (List ℕ) → Place → List ℕ → Data → Read (List Fault)
all_warnings names place at d = do
  warnings ← others names Allowed place at d
  fine ((warnings ++ annotation_warnings place d) ++ note_warnings place d)
