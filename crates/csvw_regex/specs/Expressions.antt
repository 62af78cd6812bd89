-- Regular expressions, and the texts that they describe (Model for Tabular Data, section 6.4.6). Their syntax is that of the Rust
-- crate regex, as regex_syntax defines it.
use Rattle.std.specs.Prelude.{ℕ, Bool, false, Option, Some, None, is_some, nat_le, List, chars}
use Rattle.regex_hir.specs.Re.{Re, look, cat, accept, attempt}
use Rattle.regex_hir.specs.declared.look.Look.TheVariants.{End}
use Rattle.regex_syntax.specs.Brackets.{Nested}
use Rattle.regex_syntax.specs.Grammar.{Names, read}
use Rattle.regex_syntax.specs.Verdict.{default_config}

-- what a text is read as: a pattern and how deep it is nested, and the names of its groups
abbrev pub expression_of : List ℕ → Option (Nested Re × Names)
expression_of text = read default_config (chars text)

-- groups, repetitions and classes are nested at most 250 deep
abbrev pub is_shallow : Option (Nested Re × Names) → Bool
is_shallow None = false
is_shallow (Some e) = nat_le e.0.depth default_config.nest_limit

-- a text is a regular expression
unfoldable pub is_expression : List ℕ → Bool
is_expression text = is_shallow (expression_of text)

-- a pattern matches a text from its start to its end, in some way
abbrev pub matches_whole : Re → List ℕ → Bool
matches_whole re text = is_some (attempt text (cat re (look End)) accept 0)

abbrev pub describes : Option (Nested Re × Names) → List ℕ → Bool
describes None text = false
describes (Some e) text = matches_whole e.0.value text

-- the expression, which comes first, describes the whole text
unfoldable pub fits_expression : List ℕ → List ℕ → Bool
fits_expression expression text = describes (expression_of expression) text
