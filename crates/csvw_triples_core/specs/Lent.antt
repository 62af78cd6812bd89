-- The triple that borrowed parts make (RDF 1.1 Concepts and Abstract Syntax, section 3.1).
use Rattle.std.specs.Prelude.{◌≡◌, List, ℕ, Option, Some, None, is_some, option_copied, true}
use Rattle.std.specs.Borrow.{Bor}
use Rattle.csvw_iri.specs.Vocabulary.{lang_string}
use Rattle.csvw_triples_core.specs.declared.term.Node.{Node}
use Rattle.csvw_triples_core.specs.declared.term.Node.TheVariants as node
use Rattle.csvw_triples_core.specs.declared.term.Lit.{Lit}
use Rattle.csvw_triples_core.specs.declared.term.Term.{Term}
use Rattle.csvw_triples_core.specs.declared.term.Term.TheVariants as term
use Rattle.csvw_triples_core.specs.declared.term.Triple.{Triple}
use Rattle.csvw_triples_core.specs.declared.lent.NodeRef.{NodeRef}
use Rattle.csvw_triples_core.specs.declared.lent.NodeRef.TheVariants as node_ref
use Rattle.csvw_triples_core.specs.declared.lent.LitRef.{LitRef}
use Rattle.csvw_triples_core.specs.declared.lent.TermRef.{TermRef}
use Rattle.csvw_triples_core.specs.declared.lent.TermRef.TheVariants as term_ref
use Rattle.csvw_triples_core.specs.declared.lent.TripleRef.{TripleRef}

-- a copied language tags the same datatype
pub tagged_copy : (lang : Option (Bor (List ℕ))) (datatype : List ℕ) → (is_some lang ≡ true → datatype ≡ lang_string)
    → is_some (option_copied lang) ≡ true → datatype ≡ lang_string
tagged_copy None datatype tagged = tagged
tagged_copy (Some tag) datatype tagged = tagged

-- the subject that is lent
abbrev pub node_of : NodeRef → Node
node_of (node_ref.Named iri) = node.Named iri.now
node_of (node_ref.Blank origin) = node.Blank origin

-- the literal that is lent
abbrev pub lit_of : LitRef → Lit
lit_of l = record {
  text = l.text.now;
  datatype = l.datatype.now;
  lang = option_copied l.lang;
  tagged = tagged_copy l.lang l.datatype.now l.tagged;
}

-- the object that is lent
abbrev pub term_of : TermRef → Term
term_of (term_ref.Named iri) = term.Named iri.now
term_of (term_ref.Blank origin) = term.Blank origin
term_of (term_ref.Literal l) = term.Literal (lit_of l)

-- the triple that is lent
abbrev pub triple_of : TripleRef → Triple
triple_of t = record { s = node_of t.s; p = t.p.now; o = term_of t.o }
