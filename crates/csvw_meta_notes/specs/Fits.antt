-- Notes in which each literal with a language has the datatype rdf:langString (RDF 1.1 Concepts, section 3.3).
use Rattle.std.specs.Prelude.{◌≡◌, ℕ, List, [], ◌∷◌, Some, Option}
use Rattle.csvw_description.specs.declared.note.Note.{Note}
use Rattle.csvw_description.specs.declared.note.NoteLiteral.{NoteLiteral}
use Rattle.csvw_description.specs.declared.note.NoteObject.{roll-NoteObject}
use Rattle.csvw_description.specs.declared.note.NoteValue.{Literal, Object}
use Rattle.csvw_iri.specs.Vocabulary.{lang_string}

abbrev pub IsFitLiteral : NoteLiteral → Type 0
IsFitLiteral l = (language : List ℕ) → l.language ≡ Some language → l.datatype ≡ lang_string

-- a literal that fits, or a node whose notes fit
mutual
  pub data IsFitNote : Note → Type 0 where
    literal_fits : (key : List ℕ) (l : NoteLiteral) → IsFitLiteral l → IsFitNote (record { key = key; value = Literal l })
    node_fits : (key : List ℕ) (id : Option (List ℕ)) (types : List (List ℕ)) (notes : List Note) → AreFitNotes notes
        → IsFitNote (record { key = key; value = Object (roll-NoteObject (record { id = id; types = types; notes = notes })) })

  pub data AreFitNotes : List Note → Type 0 where
    none_fit : AreFitNotes []
    more_fit : (n : Note) (ns : List Note) → IsFitNote n → AreFitNotes ns → AreFitNotes (n ∷ ns)
