-- A literal with a language is known by its text and its tag, whatever proves that its datatype is rdf:langString.
use Rattle.std.proofs.Common.{◌≡◌, ℕ, List, true, refl, sym, ap, subst}
use Rattle.std.proofs.Props.{props}
use Rattle.std.specs.Prelude.{Some}
use Rattle.csvw_triples_core.specs.declared.term.Lit.{Lit}
use Rattle.csvw_triples_core.specs.Literal.{tagged_lit}
use Rattle.csvw_iri.specs.Vocabulary.{lang_string}

abbrev by_parts : List ℕ → (datatype : List ℕ) → List ℕ → (true ≡ true → datatype ≡ lang_string) → Lit
by_parts text datatype tag tagged = record { text = text; datatype = datatype; lang = Some tag; tagged = tagged }

pub is_tagged : (text datatype tag : List ℕ) (tagged : true ≡ true → datatype ≡ lang_string) → datatype ≡ lang_string
    → by_parts text datatype tag tagged ≡ tagged_lit text tag
is_tagged text datatype tag tagged e =
    let one : IsProp (true ≡ true → lang_string ≡ lang_string) = hlevel props in
    subst (λ (d : List ℕ). (t : true ≡ true → d ≡ lang_string) → by_parts text d tag t ≡ tagged_lit text tag) (sym e)
    (λ t. ap (by_parts text lang_string tag) (one t (λ _. refl))) tagged
