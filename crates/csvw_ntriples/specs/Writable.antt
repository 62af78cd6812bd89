-- The properties of a triple by which it can be written.
use Rattle.std.specs.Prelude.{ℕ, ◌≡◌, ◌<◌, ◌^◌, List, Option, Some, None, true, IsUtf8}
use Rattle.csvw_text.specs.Language.{is_language_tag}
use Rattle.csvw_iri.specs.Safe.{is_iri}
use Rattle.csvw_triples_core.specs.declared.origin.Origin.{Origin}
use Rattle.csvw_triples_core.specs.declared.origin.Origin.TheVariants.{Group, Table, Row, Subject, Entry, Note}
use Rattle.csvw_triples_core.specs.declared.term.Node.{Node}
use Rattle.csvw_triples_core.specs.declared.term.Node.TheVariants as node
use Rattle.csvw_triples_core.specs.declared.term.Lit.{Lit}
use Rattle.csvw_triples_core.specs.declared.term.Term.{Term}
use Rattle.csvw_triples_core.specs.declared.term.Term.TheVariants as term
use Rattle.csvw_triples_core.specs.declared.term.Triple.{Triple}

-- the numbers of an origin are below 2^64
abbrev pub IsOrigin : Origin → Type 0
IsOrigin Group = Unit {0}
IsOrigin (Table t) = t < 2 ^ 64
IsOrigin (Row t r) = (t < 2 ^ 64) × (r < 2 ^ 64)
IsOrigin (Subject t r) = (t < 2 ^ 64) × (r < 2 ^ 64)
IsOrigin (Entry t r c k) = (t < 2 ^ 64) × (r < 2 ^ 64) × (c < 2 ^ 64) × (k < 2 ^ 64)
IsOrigin (Note n) = n < 2 ^ 64

-- a text whose characters may all be in an IRIREF as they are
abbrev pub IriFits : List ℕ → Type 0
IriFits iri = IsUtf8 iri × (is_iri iri ≡ true)

abbrev pub NodeFits : Node → Type 0
NodeFits (node.Named iri) = IriFits iri
NodeFits (node.Blank o) = IsOrigin o

-- the language or, if there is none, the datatype
abbrev pub SuffixFits : Option (List ℕ) → List ℕ → Type 0
SuffixFits None datatype = IriFits datatype
SuffixFits (Some tag) datatype = is_language_tag tag ≡ true

abbrev pub LitFits : Lit → Type 0
LitFits l = IsUtf8 l.text × SuffixFits l.lang l.datatype

abbrev pub TermFits : Term → Type 0
TermFits (term.Named iri) = IriFits iri
TermFits (term.Blank o) = IsOrigin o
TermFits (term.Literal l) = LitFits l

abbrev pub TripleFits : Triple → Type 0
TripleFits t = NodeFits t.s × IriFits t.p × TermFits t.o
