-- The one spelling in which triples are written, byte by byte: `escaped` for literals (RDF 1.1 N-Triples, section 2).
use Rattle.std.specs.Prelude.{ℕ, Bool, List, [], ◌∷◌, ◌++◌, ◌==◌, Option, Some, None, bytes_eq, codes, flat_map, if◌then◌else◌}
use Rattle.std.specs.Fmt.{decimal}
use Rattle.csvw_triples_core.specs.declared.origin.Origin.{Origin}
use Rattle.csvw_triples_core.specs.declared.origin.Origin.TheVariants as origin
use Rattle.csvw_triples_core.specs.declared.term.Node.{Node}
use Rattle.csvw_triples_core.specs.declared.term.Node.TheVariants as node
use Rattle.csvw_triples_core.specs.declared.term.Lit.{Lit}
use Rattle.csvw_triples_core.specs.declared.term.Term.{Term}
use Rattle.csvw_triples_core.specs.declared.term.Term.TheVariants as term
use Rattle.csvw_triples_core.specs.declared.term.Triple.{Triple}
use Rattle.csvw_iri.specs.Vocabulary.{xsd_string}
use Rattle.csvw_ntriples.specs.declared.term.NtNode.{NtNode}
use Rattle.csvw_ntriples.specs.declared.term.NtNode.TheVariants as nt_node
use Rattle.csvw_ntriples.specs.declared.term.NtLit.{NtLit}
use Rattle.csvw_ntriples.specs.declared.term.NtTerm.{NtTerm}
use Rattle.csvw_ntriples.specs.declared.term.NtTerm.TheVariants as nt_term
use Rattle.csvw_ntriples.specs.declared.term.NtTriple.{NtTriple}

-- the label of a blank node
abbrev pub label : Origin → List ℕ
label origin.Group = codes "g"
label (origin.Table t) = codes "t" ++ decimal t
label (origin.Row t r) = codes "t" ++ decimal t ++ codes "r" ++ decimal r
label (origin.Subject t r) = codes "t" ++ decimal t ++ codes "r" ++ decimal r ++ codes "s"
label (origin.Entry t r c k) = codes "t" ++ decimal t ++ codes "r" ++ decimal r ++ codes "c" ++ decimal c ++ codes "i" ++ decimal k
label (origin.Note n) = codes "a" ++ decimal n

-- a byte of a literal: `"`, `\`, LF and CR are escaped
abbrev pub escaped : ℕ → List ℕ
escaped b =
    if b == 34 then codes "\\\"" else (if b == 92 then codes "\\\\" else (if b == 10 then codes "\\n" else (if b == 13 then codes "\\r"
    else b ∷ [])))

abbrev pub iri_text : List ℕ → List ℕ
iri_text iri = 60 ∷ iri ++ 62 ∷ []

abbrev pub blank_text : Origin → List ℕ
blank_text o = codes "_:" ++ label o

abbrev pub string_text : List ℕ → List ℕ
string_text value = 34 ∷ flat_map escaped value ++ 34 ∷ []

abbrev pub node_text : Node → List ℕ
node_text (node.Named iri) = iri_text iri
node_text (node.Blank o) = blank_text o

abbrev pub is_string_type : List ℕ → Bool
is_string_type iri = bytes_eq iri xsd_string

-- the datatype of a literal, which is left out if it is xsd:string
abbrev pub datatype_text : List ℕ → List ℕ
datatype_text iri = if is_string_type iri then [] else codes "^^" ++ iri_text iri

-- the language if there is one, else the datatype
abbrev pub suffix_text : Option (List ℕ) → List ℕ → List ℕ
suffix_text None datatype = datatype_text datatype
suffix_text (Some tag) datatype = 64 ∷ tag

abbrev pub lit_text : Lit → List ℕ
lit_text l = string_text l.text ++ suffix_text l.lang l.datatype

abbrev pub term_text : Term → List ℕ
term_text (term.Named iri) = iri_text iri
term_text (term.Blank o) = blank_text o
term_text (term.Literal l) = lit_text l

-- a triple, with its line break
abbrev pub line_text : Triple → List ℕ
line_text t = node_text t.s ++ 32 ∷ iri_text t.p ++ 32 ∷ term_text t.o ++ codes " .\n"

-- triples, a line each
abbrev pub written : List Triple → List ℕ
written ts = flat_map line_text ts

-- a triple whose blank nodes have these names
abbrev pub node_named : (Origin → List ℕ) → Node → NtNode
node_named name (node.Named iri) = nt_node.Named iri
node_named name (node.Blank o) = nt_node.Blank (name o)

abbrev pub lit_said : Lit → NtLit
lit_said l = record { text = l.text; datatype = l.datatype; lang = l.lang }

abbrev pub term_named : (Origin → List ℕ) → Term → NtTerm
term_named name (term.Named iri) = nt_term.Named iri
term_named name (term.Blank o) = nt_term.Blank (name o)
term_named name (term.Literal l) = nt_term.Literal (lit_said l)

abbrev pub named : (Origin → List ℕ) → Triple → NtTriple
named name t = record { s = node_named name t.s; p = t.p; o = term_named name t.o }

-- a triple with each origin as its label
abbrev pub said : Triple → NtTriple
said t = named label t
