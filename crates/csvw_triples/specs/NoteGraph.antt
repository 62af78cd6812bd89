-- The graph of the annotations of a subject: `Notes` (csv2rdf, section 4.2, with JSON-LD to RDF).
use Rattle.std.specs.Prelude.{◌≡◌, ℕ, ◌+◌, List, Option, Contains}
use Rattle.csvw_triples_core.specs.declared.term.Node.{Node}
use Rattle.csvw_triples_core.specs.declared.term.Triple.{Triple}
use Rattle.csvw_triples.specs.Annotations.{Said, object, Annotations, nothing, says}
use Rattle.csvw_triples.specs.Blanks.{is_blank, blanks, object_node}
use Rattle.csvw_triples.specs.NotesTriples.{link_triple, kind_triple}

abbrev pub followed_by : Annotations → Annotations → Annotations
followed_by nothing after = after
followed_by (says key said rest) after = says key said (followed_by rest after)

-- one of the annotations, with m blank nodes before it: n before all of them, and those of the annotations before it
abbrev pub Stands : ℕ → Annotations → ℕ → List ℕ → Said → Type 0
Stands n notes m key said =
    (before : Annotations) × (after : Annotations) × (notes ≡ followed_by before (says key said after)) × (m ≡ n + blanks before)

-- x is a triple of a subject's annotations, which have n blank nodes before them: it leads to a literal or an object, or says a type of the
-- object, or is one of the object's own annotations
pub data Notes (x : Triple) : Node → ℕ → Annotations → Type 0 where
  linked : {s : Node} {n : ℕ} {notes : Annotations} (m : ℕ) (key : List ℕ) (said : Said)
      → Stands n notes m key said → x ≡ link_triple s m key said → Notes x s n notes
  of_kind : {s : Node} {n : ℕ} {notes : Annotations} (m : ℕ) (key : List ℕ)
      (id : Option (List ℕ)) (types : List (List ℕ)) (inner : Annotations) (kind : List ℕ)
      → Stands n notes m key (object id types inner) → Contains types kind → x ≡ kind_triple (object_node m id) kind → Notes x s n notes
  within : {s : Node} {n : ℕ} {notes : Annotations} (m : ℕ) (key : List ℕ)
      (id : Option (List ℕ)) (types : List (List ℕ)) (inner : Annotations)
      → Stands n notes m key (object id types inner) → Notes x (object_node m id) (m + is_blank id) inner → Notes x s n notes
