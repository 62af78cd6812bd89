-- Literals with a datatype, and literals with a language (RDF 1.1 Concepts, section 3.3).
use Rattle.std.specs.Prelude.{◌≡◌, ℕ, List, Bool, true, false, Some, None, refl}
use Rattle.std.proofs.Common.{subst}
use Rattle.csvw_triples_core.specs.declared.term.Lit.{Lit}
use Rattle.csvw_iri.specs.Vocabulary.{lang_string}

abbrev pub IfFalse : Bool → Type 0
IfFalse true = ⊥
IfFalse false = Unit {0}

pub no_lang : {P : Type 0} → false ≡ true → P
no_lang h = absurd (subst IfFalse h tt)

-- a literal of this text and datatype
abbrev pub typed_lit : List ℕ → List ℕ → Lit
typed_lit text datatype = record { text = text; datatype = datatype; lang = None; tagged = λ h. no_lang h }

-- a literal of this text in this language
abbrev pub tagged_lit : List ℕ → List ℕ → Lit
tagged_lit text tag = record { text = text; datatype = lang_string; lang = Some tag; tagged = λ _. refl }
