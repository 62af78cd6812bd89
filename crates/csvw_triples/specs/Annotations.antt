-- Annotations as keys with literals and objects: `annotations` (Metadata Vocabulary for Tabular Data, sections 5.8 and 6.2;
-- csv2rdf, section 4.2).
use Rattle.std.specs.Prelude.{ℕ, List, [], ◌∷◌, map, Option, Some, None}
use Rattle.csvw_description.specs.declared.note.Note.{Note}
use Rattle.csvw_description.specs.declared.note.NoteLiteral.{NoteLiteral}
use Rattle.csvw_description.specs.declared.note.NoteValue.{NoteValue}
use Rattle.csvw_description.specs.declared.note.NoteValue.TheOpen.{NoteValue-F, Note-F, NoteObject-F}
use Rattle.csvw_description.specs.declared.note.NoteValue.TheFolds.{fold-Note, fold-NoteValue}
use Rattle.csvw_triples_core.specs.declared.term.Lit.{Lit}
use Rattle.csvw_triples_core.specs.Literal.{typed_lit, tagged_lit}

mutual
  -- the value of an annotation: a literal, or an object with its `@id`, its types and its own annotations
  pub data Said : Type 0 where
    literal : Lit → Said
    object : Option (List ℕ) → List (List ℕ) → Annotations → Said

  -- annotations: keys with values, in order
  pub data Annotations : Type 0 where
    nothing : Annotations
    says : List ℕ → Said → Annotations → Annotations

-- a literal; with a language its datatype is rdf:langString
abbrev pub lit_by : List ℕ → List ℕ → Option (List ℕ) → Lit
lit_by text datatype None = typed_lit text datatype
lit_by text datatype (Some tag) = tagged_lit text tag

abbrev pub lit_of : NoteLiteral → Lit
lit_of l = lit_by l.text l.datatype l.language

abbrev pub Keyed : Type 0
Keyed = List ℕ × Said

abbrev pub annotations_of : List Keyed → Annotations
annotations_of [] = nothing
annotations_of (p ∷ ps) = says p.0 p.1 (annotations_of ps)

-- one level of a note's value, whose inner values were converted before
abbrev pub value_step : NoteValue-F Said Keyed Said → Said
value_step (NoteValue-F.Literal l) = literal (lit_of l)
value_step (NoteValue-F.Object o) = o

abbrev pub note_step : Note-F Said Keyed Said → Keyed
note_step n = (n.key, n.value)

abbrev pub object_step : NoteObject-F Said Keyed Said → Said
object_step o = object o.id o.types (annotations_of o.notes)

-- an annotation: its key and its value
abbrev pub keyed : Note → Keyed
keyed = fold-Note Said Keyed Said value_step note_step object_step

abbrev pub said : NoteValue → Said
said = fold-NoteValue Said Keyed Said value_step note_step object_step

-- the annotations of a list of notes
abbrev pub annotations : List Note → Annotations
annotations notes = annotations_of (map keyed notes)
