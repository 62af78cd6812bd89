-- The nodes of the objects of annotations: `object_node` (csv2rdf, section 4.2, with JSON-LD to RDF).
use Rattle.std.specs.Prelude.{ℕ, ◌+◌, List, Option, Some, None}
use Rattle.csvw_triples_core.specs.declared.origin.Origin.TheVariants as origin
use Rattle.csvw_triples_core.specs.declared.term.Node.{Node}
use Rattle.csvw_triples_core.specs.declared.term.Node.TheVariants as node
use Rattle.csvw_triples.specs.Annotations.{Said, literal, object, Annotations, nothing, says}

-- 1 for an object without an `@id`, which becomes a blank node, else 0
abbrev pub is_blank : Option (List ℕ) → ℕ
is_blank None = 1
is_blank (Some id) = 0

-- how many objects become blank nodes
abbrev mutual
  pub blanks_of : Said → ℕ
  blanks_of (literal lit) = 0
  blanks_of (object id types inner) = is_blank id + blanks inner

  pub blanks : Annotations → ℕ
  blanks nothing = 0
  blanks (says key said rest) = blanks_of said + blanks rest

-- the node of an object after n blank nodes: its `@id`, else the next blank node; they are numbered from 1
abbrev pub object_node : ℕ → Option (List ℕ) → Node
object_node n None = node.Blank (origin.Note (n + 1))
object_node n (Some id) = node.Named id
