-- Graphs that are the same up to the names of their blank nodes (RDF 1.1 Concepts, section 3.6).
use Rattle.std.specs.Prelude.{ℕ, ◌≡◌, List, ◌⊎◌, Contains}
use Rattle.csvw_triples_core.specs.declared.origin.Origin.{Origin}
use Rattle.csvw_triples_core.specs.declared.term.Node.TheVariants as node
use Rattle.csvw_triples_core.specs.declared.term.Term.TheVariants as term
use Rattle.csvw_triples_core.specs.declared.term.Triple.{Triple}
use Rattle.csvw_ntriples.specs.Written.{named}
use Rattle.csvw_ntriples.specs.declared.term.NtTriple.{NtTriple}

-- the blank node is in a triple of the graph
abbrev pub Occurs : (Triple → Type 0) → Origin → Type 0
Occurs X o = (t : Triple) × X t × ((t.s ≡ node.Blank o) ⊎ (t.o ≡ term.Blank o))

-- There are names, different for different blank nodes of the graph X, by which the triples Y are those of X.
pub record SameUpTo (X : Triple → Type 0) (Y : List NtTriple) : Type 0 where
  pub name : Origin → List ℕ
  pub one_to_one : (o p : Origin) → Occurs X o → Occurs X p → name o ≡ name p → o ≡ p
  pub whole : (t : Triple) → X t → Contains Y (named name t)
  pub only : (u : NtTriple) → Contains Y u → (t : Triple) × X t × (u ≡ named name t)
