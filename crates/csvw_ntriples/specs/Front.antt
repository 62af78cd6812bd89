-- The start of a line that is kept while the rest is made anew for the next triple.
use Rattle.std.specs.Prelude.{◌≡◌, ◌++◌, ℕ, List, codes, decimal, length, take}
use Rattle.csvw_triples_core.specs.declared.origin.Origin.{Origin}
use Rattle.csvw_triples_core.specs.declared.term.Term.{Term}
use Rattle.csvw_triples_core.specs.declared.term.Triple.{Triple}
use Rattle.csvw_ntriples.specs.Written.{blank_text, term_text}

-- a blank node as a subject, up to the text of the predicate
abbrev pub front_text : Origin → List ℕ
front_text o = blank_text o ++ codes " <"

-- the part that the blank nodes of all rows of a table begin with
abbrev pub rows_front : ℕ → List ℕ
rows_front t = codes "_:" ++ codes "t" ++ decimal t ++ codes "r"

-- the text of the blank node is the first n bytes
abbrev pub IsFront : Origin → ℕ → List ℕ → Type 0
IsFront subject n bytes = (take n bytes ≡ front_text subject) × (n ≡ length (front_text subject))

-- the part of a line after the text of its predicate
abbrev pub object_text : Term → List ℕ
object_text o = codes "> " ++ term_text o ++ codes " .\n"

-- the part of a line from the text of its predicate on
abbrev pub rest_text : Triple → List ℕ
rest_text t = t.p ++ object_text t.o
