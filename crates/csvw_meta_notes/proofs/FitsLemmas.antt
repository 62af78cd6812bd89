-- The annotations that are read fit (each literal with a language has the datatype rdf:langString).
use Rattle.std.proofs.Common.{ℕ, ◌+◌, List, [], ◌∷◌, ◌++◌, Option, Some, None, Bool, true, false, if◌then◌else◌, codes, refl}
use Rattle.serde_json.specs.Data.{unsigned, negative, float, Data, null, boolean, number, string, array, object}
use Rattle.serde_json.specs.Data.{Items, no_items, item, Members, no_members, member}
use Rattle.serde_json.specs.Find.{get}
use Rattle.url.specs.Parts.{Parts}
use Rattle.csvw_meta_core.specs.Others.{has_colon}
use Rattle.csvw_meta_core.specs.Pointer.{below, item_at}
use Rattle.csvw_meta_core.specs.Read.{Read, fine, ◌>>=◌, given, optional, property}
use Rattle.csvw_meta_core.specs.Kinds as kinds
use Rattle.csvw_meta_core.specs.declared.fault.MetaCode.TheVariants.{BadProperty}
use Rattle.csvw_description.specs.declared.note.Note.{Note}
use Rattle.csvw_description.specs.declared.note.NoteLiteral.{NoteLiteral}
use Rattle.csvw_description.specs.declared.note.NoteValue.{Literal}
use Rattle.csvw_meta_notes.specs.Fits.{IsFitLiteral, AreFitNotes, literal_fits, node_fits, none_fit, more_fit}
use Rattle.csvw_meta_notes.specs.Literals.{literal, with_own}
use Rattle.csvw_meta_notes.specs.Names.{name_of, type_name, type_names}
use Rattle.csvw_meta_notes.specs.Nodes.{node, node_id}
use Rattle.csvw_meta_notes.specs.Annotations.{note, described, if_common, noted, all_noted, common, annotations, note_items, notes}
use Rattle.csvw_meta_notes.specs.Scalars.{typed, tagged, in_language, scalar}
use Rattle.csvw_meta_notes.specs.Vocabulary.{csvw_note}

typed_fits : (datatype text : List ℕ) → IsFitLiteral (typed datatype text)
typed_fits datatype text language e = cc

tagged_fits : (language text : List ℕ) → IsFitLiteral (tagged language text)
tagged_fits language text l e = refl

in_language_fits : (language : Option (List ℕ)) (text : List ℕ) → IsFitLiteral (in_language language text)
in_language_fits None text = typed_fits _ text
in_language_fits (Some language) text = tagged_fits language text

scalar_fits : (language : Option (List ℕ)) (at : List ℕ) (d : Data) → IsFitLiteral (scalar language at d).value
scalar_fits language at null = typed_fits _ []
scalar_fits language at (boolean b) = typed_fits _ []
scalar_fits language at (number (unsigned n)) = typed_fits _ []
scalar_fits language at (number (negative z)) = typed_fits _ []
scalar_fits language at (number (float x)) = typed_fits _ []
scalar_fits language at (string s) = in_language_fits language s
scalar_fits language at (array ds) = typed_fits _ []
scalar_fits language at (object ms) = typed_fits _ []

own_fits : (plain : NoteLiteral) → IsFitLiteral plain → (language type : Option (List ℕ)) → IsFitLiteral (with_own plain language type)
own_fits plain h (Some language) type = tagged_fits language plain.text
own_fits plain h None (Some type) = typed_fits type plain.text
own_fits plain h None None = h

literal_is_fit : (at : List ℕ) (d : Data) (ms : Members) (value : Data) → IsFitLiteral (literal at d ms value).value
unfolding literal
literal_is_fit at d ms value =
    own_fits (scalar None (below at (codes "@value")) value).value (scalar_fits None (below at (codes "@value")) value)
    (optional (kinds.language BadProperty) at d (codes "@language")).value (optional type_name at d (codes "@type")).value

pub join : (xs ys : List Note) → AreFitNotes xs → AreFitNotes ys → AreFitNotes (xs ++ ys)
join [] ys none_fit k = k
join (x ∷ xs) ys (more_fit _ _ h hs) k = more_fit x (xs ++ ys) h (join xs ys hs k)

one_literal : (key : List ℕ) (l : NoteLiteral) → IsFitLiteral l → AreFitNotes (record { key = key; value = Literal l } ∷ [])
one_literal key l h = more_fit _ [] (literal_fits key l h) none_fit

described_fits : (base : Parts) (key at : List ℕ) (d : Data) (ms : Members) (properties : Read (List Note)) → AreFitNotes properties.value
    → (value : Option Data) → AreFitNotes (note key (described base at d ms properties value).value)
unfolding node
described_fits base key at d ms properties h (Some value) = one_literal key (literal at d ms value).value (literal_is_fit at d ms value)
described_fits base key at d ms properties h None = more_fit _ [] (node_fits key (optional (node_id base) at d (codes "@id")).value
    (property type_names [] at d (codes "@type")).value properties.value h) none_fit

common_fits_if : (b : Bool) (r : Read (List Note)) → AreFitNotes r.value → AreFitNotes (if b then r else fine []).value
common_fits_if true r h = h
common_fits_if false r h = none_fit

mutual
  pub noted_fits : (base : Parts) (language : Option (List ℕ)) (key at : List ℕ) (d : Data) → AreFitNotes (noted base language key at d).value
  noted_fits base language key at null = none_fit
  noted_fits base language key at (boolean b) = one_literal key (scalar language at (boolean b)).value (scalar_fits language at (boolean b))
  noted_fits base language key at (number n) = one_literal key (scalar language at (number n)).value (scalar_fits language at (number n))
  noted_fits base language key at (string s) = one_literal key (scalar language at (string s)).value (scalar_fits language at (string s))
  noted_fits base language key at (array ds) = all_noted_fits base language key at 0 ds
  noted_fits base language key at (object ms) =
      described_fits base key at (object ms) ms (common base language at ms) (common_fits base language at ms) (get (codes "@value") (object ms))

  pub all_noted_fits : (base : Parts) (language : Option (List ℕ)) (key at : List ℕ) (i : ℕ) (ds : Items)
      → AreFitNotes (all_noted base language key at i ds).value
  all_noted_fits base language key at i no_items = none_fit
  all_noted_fits base language key at i (item d ds) =
      join (noted base language key (item_at at i) d).value (all_noted base language key at (i + 1) ds).value
      (noted_fits base language key (item_at at i) d) (all_noted_fits base language key at (i + 1) ds)

  pub common_fits : (base : Parts) (language : Option (List ℕ)) (at : List ℕ) (ms : Members) → AreFitNotes (common base language at ms).value
  common_fits base language at no_members = none_fit
  common_fits base language at (member name d ms) =
      join (if_common (below at name) name d (λ key. noted base language key (below at name) d)).value (common base language at ms).value
      (common_fits_if (has_colon name) (name_of (below at name) d name >>= (λ key. noted base language key (below at name) d))
      (noted_fits base language (name_of (below at name) d name).value (below at name) d))
      (common_fits base language at ms)

pub annotations_fit : (base : Parts) (language : Option (List ℕ)) (at : List ℕ) (d : Data) → AreFitNotes (annotations base language at d).value
annotations_fit base language at null = none_fit
annotations_fit base language at (boolean b) = none_fit
annotations_fit base language at (number n) = none_fit
annotations_fit base language at (string s) = none_fit
annotations_fit base language at (array ds) = none_fit
annotations_fit base language at (object ms) = common_fits base language at ms

items_fit : (base : Parts) (language : Option (List ℕ)) (at : List ℕ) (d : Data) → AreFitNotes (note_items base language at d).value
items_fit base language at null = none_fit
items_fit base language at (boolean b) = none_fit
items_fit base language at (number n) = none_fit
items_fit base language at (string s) = none_fit
items_fit base language at (array ds) = all_noted_fits base language csvw_note at 0 ds
items_fit base language at (object ms) = none_fit

given_fits : (base : Parts) (language : Option (List ℕ)) (at : List ℕ) (o : Option Data)
    → AreFitNotes (given (note_items base language) [] at o).value
given_fits base language at None = none_fit
given_fits base language at (Some d) = items_fit base language at d

pub notes_fit : (base : Parts) (language : Option (List ℕ)) (at : List ℕ) (d : Data) → AreFitNotes (notes base language at d).value
notes_fit base language at d = given_fits base language (below at (codes "notes")) (get (codes "notes") d)
