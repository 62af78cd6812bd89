-- A document by the production `ntriplesDoc`: `IsDocument` (RDF 1.1 N-Triples, section 7). Terminals are the longest in the whole
-- text. White space and comments may be between them, and a comment goes to the end of its line. Breaks with only these between
-- them are one EOL.
use Rattle.std.specs.Prelude.{ℕ, ◌≡◌, List, [], ◌∷◌, ◌++◌, ◌⊎◌, IsTrue, not, Option, Some, None, option_to_list, codes}
use Rattle.std.specs.List.{list_all}
use Rattle.csvw_ntriples.specs.Character.{is_break}
use Rattle.csvw_ntriples.specs.Grammar.{Takes, IsMark, TakesIri, TakesNode, TakesTerm, IsIdle}
use Rattle.csvw_ntriples.specs.declared.term.NtTriple.{NtTriple}

-- the text has no CR or LF
abbrev pub IsInLine : List ℕ → Type 0
IsInLine part = IsTrue (list_all (λ c. not (is_break c)) part)

-- spaces and tabs, and perhaps a comment, on one line
abbrev pub IsGap : List ℕ → Type 0
IsGap part = IsInLine part × IsIdle part

-- the gaps with a CR or LF before, between and after them
abbrev pub IsEolOver : List (List ℕ) → List ℕ → Type 0
IsEolOver [] text = (c : ℕ) × (text ≡ c ∷ []) × IsTrue (is_break c)
IsEolOver (gap ∷ gaps) text =
    (c : ℕ) × (rest : List ℕ) × (text ≡ c ∷ gap ++ rest) × IsTrue (is_break c) × IsGap gap × IsEolOver gaps rest

-- EOL ::= [#xD#xA]+
abbrev pub IsEol : List ℕ → Type 0
IsEol text = (gaps : List (List ℕ)) × IsEolOver gaps text

-- the text is a gap, an EOL and what comes after it
abbrev pub TakesEol : List ℕ → List ℕ → Type 0
TakesEol text after = (gap eol : List ℕ) × (text ≡ gap ++ (eol ++ after)) × IsGap gap × IsEol eol

-- triple ::= subject predicate object '.'
abbrev pub TakesTriple : NtTriple → List ℕ → List ℕ → Type 0
TakesTriple t text after =
    (a b c : List ℕ) × TakesNode t.s text a × TakesIri t.p a b × TakesTerm t.o b c × Takes (IsMark (codes ".")) tt c after

-- triple?
abbrev pub TakesFirst : Option NtTriple → List ℕ → List ℕ → Type 0
TakesFirst None text after = text ≡ after
TakesFirst (Some t) text after = TakesTriple t text after

-- (EOL triple)*
abbrev pub TakesFurther : List NtTriple → List ℕ → List ℕ → Type 0
TakesFurther [] text after = text ≡ after
TakesFurther (t ∷ ts) text after = (a b : List ℕ) × TakesEol text a × TakesTriple t a b × TakesFurther ts b after

-- EOL?, and the last gap
abbrev pub IsEnd : List ℕ → Type 0
IsEnd text = IsGap text ⊎ ((gap : List ℕ) × TakesEol text gap × IsGap gap)

-- ntriplesDoc ::= triple? (EOL triple)* EOL?
abbrev pub IsDocument : List ℕ → List NtTriple → Type 0
IsDocument text ts =
    (first : Option NtTriple) × (further : List NtTriple) × (a b : List ℕ)
    × (ts ≡ option_to_list first ++ further) × TakesFirst first text a × TakesFurther further a b × IsEnd b
