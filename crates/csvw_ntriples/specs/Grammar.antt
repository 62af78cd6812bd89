-- Which lists of triples a text denotes: `Denotes` (RDF 1.1 N-Triples, sections 2 and 7).
use Rattle.std.specs.Prelude.{ℕ, ◌≡◌, List, [], ◌∷◌, ◌++◌, IsTrue, ◌⊎◌, Option, Some, None, codes, chars, IsUtf8}
use Rattle.std.specs.List.{slice_split, list_all}
use Rattle.csvw_iri.specs.Vocabulary.{lang_string, xsd_string}
use Rattle.csvw_ntriples.specs.Character.{is_break, is_blank}
use Rattle.csvw_ntriples.specs.Terminal.{InBytes, IsString, IsIriref, IsLangtag, IsBlankNode}
use Rattle.csvw_ntriples.specs.declared.term.NtNode.{NtNode}
use Rattle.csvw_ntriples.specs.declared.term.NtNode.TheVariants as node
use Rattle.csvw_ntriples.specs.declared.term.NtLit.{NtLit}
use Rattle.csvw_ntriples.specs.declared.term.NtTerm.{NtTerm}
use Rattle.csvw_ntriples.specs.declared.term.NtTerm.TheVariants as term
use Rattle.csvw_ntriples.specs.declared.term.NtTriple.{NtTriple}

-- no terminal that begins with piece goes further into the text after it
abbrev pub IsLongest : {V : Type 0} → (List ℕ → V → Type 0) → List ℕ → List ℕ → Type 0
IsLongest {V} P piece after = (more rest : List ℕ) (v : V) → after ≡ more ++ rest → P (piece ++ more) v → more ≡ []

-- the text is spaces and tabs, then the longest terminal P, which means v, and then a rest
abbrev pub Takes : {V : Type 0} → (List ℕ → V → Type 0) → V → List ℕ → List ℕ → Type 0
Takes P v text after =
    (gap piece : List ℕ) × (text ≡ gap ++ (piece ++ after)) × IsTrue (list_all is_blank gap) × P piece v × IsLongest P piece after

-- '.' and '^^'
abbrev pub IsMark : List ℕ → List ℕ → Unit {0} → Type 0
IsMark mark piece v = piece ≡ mark

abbrev pub TakesIri : List ℕ → List ℕ → List ℕ → Type 0
TakesIri iri text after = Takes (InBytes IsIriref) iri text after

abbrev pub TakesBlank : List ℕ → List ℕ → List ℕ → Type 0
TakesBlank label text after = Takes (InBytes IsBlankNode) label text after

-- IRIREF | BLANK_NODE_LABEL
abbrev pub TakesNode : NtNode → List ℕ → List ℕ → Type 0
TakesNode (node.Named iri) text after = TakesIri iri text after
TakesNode (node.Blank label) text after = TakesBlank label text after

-- ('^^' IRIREF | LANGTAG)?: a literal without either is an xsd:string, one with a language an rdf:langString
abbrev pub TakesSuffix : Option (List ℕ) → List ℕ → List ℕ → List ℕ → Type 0
TakesSuffix None datatype text after =
    ((datatype ≡ xsd_string) × (text ≡ after))
    ⊎ ((rest : List ℕ) × Takes (IsMark (codes "^^")) tt text rest × TakesIri datatype rest after)
TakesSuffix (Some tag) datatype text after = (datatype ≡ lang_string) × Takes (InBytes IsLangtag) tag text after

-- STRING_LITERAL_QUOTE ('^^' IRIREF | LANGTAG)?
abbrev pub TakesLit : NtLit → List ℕ → List ℕ → Type 0
TakesLit lit text after = (rest : List ℕ) × Takes (InBytes IsString) lit.text text rest × TakesSuffix lit.lang lit.datatype rest after

-- IRIREF | BLANK_NODE_LABEL | literal
abbrev pub TakesTerm : NtTerm → List ℕ → List ℕ → Type 0
TakesTerm (term.Named iri) text after = TakesIri iri text after
TakesTerm (term.Blank label) text after = TakesBlank label text after
TakesTerm (term.Literal lit) text after = TakesLit lit text after

-- spaces and tabs, and perhaps a comment
abbrev pub IsIdle : List ℕ → Type 0
IsIdle [] = Unit {0}
IsIdle (c ∷ cs) = (c ≡ 35) ⊎ (IsTrue (is_blank c) × IsIdle cs)

-- a line with a triple
abbrev pub IsTripleLine : List ℕ → NtTriple → Type 0
IsTripleLine line t =
    (a b c d : List ℕ) × TakesNode t.s line a × TakesIri t.p a b × TakesTerm t.o b c × Takes (IsMark (codes ".")) tt c d × IsIdle d

-- the lines have these triples, one or none each
abbrev pub AreLines : List (List ℕ) → List NtTriple → Type 0
AreLines [] ts = ts ≡ []
AreLines (line ∷ lines) ts =
    (IsIdle line × AreLines lines ts)
    ⊎ ((t : NtTriple) × (rest : List NtTriple) × (ts ≡ t ∷ rest) × IsTripleLine line t × AreLines lines rest)

-- No terminal has a CR or LF, so a document is its lines, and empty lines make no difference. Document.antt has the production.
abbrev pub DenotesText : List ℕ → List NtTriple → Type 0
DenotesText text ts = AreLines (slice_split is_break text) ts

-- The bytes are UTF-8, and their text denotes the triples.
abbrev pub Denotes : List ℕ → List NtTriple → Type 0
Denotes bytes ts = IsUtf8 bytes × DenotesText (chars bytes) ts
