-- Annotations, by recursion on the JSON tree: `annotations`, `notes` (Metadata Vocabulary for Tabular Data, sections 5.8 and
-- 6.2).
use Rattle.std.specs.Prelude.{ℕ, ◌+◌, List, [], ◌∷◌, ◌++◌, codes, Option, Some, None, if◌then◌else◌}
use Rattle.serde_json.specs.Data.{Data, null, boolean, number, string, array, object, Items, no_items, item, Members, no_members, member}
use Rattle.serde_json.specs.Find.{get}
use Rattle.url.specs.Parts.{Parts}
use Rattle.csvw_meta_core.specs.Others.{has_colon}
use Rattle.csvw_meta_core.specs.Pointer.{below, item_at}
use Rattle.csvw_meta_core.specs.Read.{Read, fine, ◌>>=◌, wrong, under, both, property}
use Rattle.csvw_description.specs.declared.note.Note.{Note}
use Rattle.csvw_description.specs.declared.note.NoteValue.{NoteValue, Literal, Object}
use Rattle.csvw_meta_notes.specs.Literals.{literal}
use Rattle.csvw_meta_notes.specs.Names.{name_of}
use Rattle.csvw_meta_notes.specs.Nodes.{node}
use Rattle.csvw_meta_notes.specs.Scalars.{scalar}
use Rattle.csvw_meta_notes.specs.Vocabulary.{csvw_note}

-- one note of a predicate
abbrev pub note : List ℕ → NoteValue → List Note
note key value = record { key = key; value = value } ∷ []

-- an object with `@value` is a literal, any other a node
abbrev pub described : Parts → List ℕ → Data → Members → Read (List Note) → Option Data → Read NoteValue
described base at d ms properties (Some value) = under Literal (literal at d ms value)
described base at d ms properties None = under Object (node base at d ms properties)

-- A property without a colon is ignored. A value is checked even if its name is not an IRI.
abbrev pub if_common : List ℕ → List ℕ → Data → (List ℕ → Read (List Note)) → Read (List Note)
if_common at name d says = if has_colon name then name_of at d name >>= says else fine []

-- the notes of a value with this predicate, in the language of the context
abbrev mutual
  pub noted : Parts → Option (List ℕ) → List ℕ → List ℕ → Data → Read (List Note)
  noted base language key at null = fine []
  noted base language key at (boolean b) = under (λ l. note key (Literal l)) (scalar language at (boolean b))
  noted base language key at (number n) = under (λ l. note key (Literal l)) (scalar language at (number n))
  noted base language key at (string s) = under (λ l. note key (Literal l)) (scalar language at (string s))
  noted base language key at (array ds) = all_noted base language key at 0 ds
  noted base language key at (object ms) =
      under (note key) (described base at (object ms) ms (common base language at ms) (get (codes "@value") (object ms)))

  -- of each item of an array, the first of which here has the index i
  pub all_noted : Parts → Option (List ℕ) → List ℕ → List ℕ → ℕ → Items → Read (List Note)
  all_noted base language key at i no_items = fine []
  all_noted base language key at i (item d ds) =
      both (λ x y. x ++ y) (noted base language key (item_at at i) d) (all_noted base language key at (i + 1) ds)

  -- of the common properties among these members
  pub common : Parts → Option (List ℕ) → List ℕ → Members → Read (List Note)
  common base language at no_members = fine []
  common base language at (member name d ms) =
      both (λ x y. x ++ y) (if_common (below at name) name d (λ key. noted base language key (below at name) d)) (common base language at ms)

-- the common properties of an object
abbrev pub annotations : Parts → Option (List ℕ) → List ℕ → Data → Read (List Note)
annotations base language at (object ms) = common base language at ms
annotations base language at null = fine []
annotations base language at (boolean b) = fine []
annotations base language at (number n) = fine []
annotations base language at (string s) = fine []
annotations base language at (array ds) = fine []

-- an array of notes
abbrev pub note_items : Parts → Option (List ℕ) → List ℕ → Data → Read (List Note)
note_items base language at (array ds) = all_noted base language csvw_note at 0 ds
note_items base language at null = wrong at null []
note_items base language at (boolean b) = wrong at (boolean b) []
note_items base language at (number n) = wrong at (number n) []
note_items base language at (string s) = wrong at (string s) []
note_items base language at (object ms) = wrong at (object ms) []

-- the property `notes` of an object
abbrev pub notes : Parts → Option (List ℕ) → List ℕ → Data → Read (List Note)
notes base language at d = property (note_items base language) [] at d (codes "notes")
