-- The triples of annotations, in their order: `notes_triples` (csv2rdf, section 4.2, with JSON-LD to RDF).
use Rattle.std.specs.Prelude.{ℕ, ◌+◌, List, [], ◌∷◌, ◌++◌, map, Option}
use Rattle.csvw_triples_core.specs.declared.term.Node.{Node}
use Rattle.csvw_triples_core.specs.declared.term.Term.{Term}
use Rattle.csvw_triples_core.specs.declared.term.Term.TheVariants as term
use Rattle.csvw_triples_core.specs.declared.term.Triple.{Triple}
use Rattle.csvw_triples_rows.specs.RowTriples.{triple}
use Rattle.csvw_triples_rows.specs.StandardTriples.{object_of}
use Rattle.csvw_triples_rows.specs.CsvwVocabulary.{rdf_type}
use Rattle.csvw_triples.specs.Annotations.{Keyed, Said, literal, object, Annotations, nothing, says}
use Rattle.csvw_triples.specs.Blanks.{is_blank, blanks_of, object_node}

-- the value as a term: a literal, or the node of an object with n blank nodes before it
abbrev pub term_of : ℕ → Said → Term
term_of n (literal lit) = term.Literal lit
term_of n (object id types inner) = object_of (object_node n id)

-- the triple that leads to it from its subject
abbrev pub link_triple : Node → ℕ → List ℕ → Said → Triple
link_triple s n key said = triple s key (term_of n said)

-- the triple that leads to an object
abbrev pub object_link : Node → ℕ → List ℕ → Option (List ℕ) → Triple
object_link s n key id = triple s key (object_of (object_node n id))

-- the triple of one of an object's types
abbrev pub kind_triple : Node → List ℕ → Triple
kind_triple s kind = triple s rdf_type (term.Named kind)

-- the triples of a subject's annotations, with n blank nodes before them: each link, and then the triples of the object
abbrev mutual
  pub object_triples : ℕ → Said → List Triple
  object_triples n (literal lit) = []
  object_triples n (object id types inner) =
      map (kind_triple (object_node n id)) types ++ notes_triples (object_node n id) (n + is_blank id) inner

  pub notes_triples : Node → ℕ → Annotations → List Triple
  notes_triples s n nothing = []
  notes_triples s n (says key said rest) =
      link_triple s n key said ∷ (object_triples n said ++ notes_triples s (n + blanks_of said) rest)

-- the triples of one annotation
abbrev pub note_triples : Node → ℕ → Keyed → List Triple
note_triples s n note = link_triple s n note.0 note.1 ∷ object_triples n note.1
