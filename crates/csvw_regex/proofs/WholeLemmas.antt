-- What the parser of expressions, the compiler of automata and the searches return, in the words of `fits_expression`.
use Rattle.std.proofs.Common.{◌≡◌, ◌≢◌, ℕ, ◌<◌, ◌≤◌, inl, inr, true, false, Option, Some, None, is_some, option_map, IfSome, List, length, refl, sym, ap, ◌∙◌, arith}
use Rattle.std.specs.Prelude.{IsSomeAnd, chars}
use Rattle.std.specs.Option.{option_or}
use Rattle.std.proofs.lemmas.Bool.Decides.{nat_tests}
use Rattle.regex_hir.specs.Re.{Re, Trace, Rest, cat, look, empty, accept, attempt}
use Rattle.regex_hir.specs.Find.{Match, first_from}
use Rattle.regex_hir.specs.Meaning.{meaning}
use Rattle.regex_hir.specs.declared.hir.Hir.{Hir}
use Rattle.regex_hir.specs.declared.look.Look.TheVariants.{End}
use Rattle.regex_nfa.specs.Run.{run}
use Rattle.regex_nfa.specs.declared.nfa.Nfa.{Nfa}
use Rattle.regex_syntax.specs.Brackets.{Nested}
use Rattle.regex_syntax.specs.Captures.{outcome, SameCaptures}
use Rattle.regex_syntax.specs.Grammar.{Names, read, group_count}
use Rattle.regex_syntax.specs.Verdict.{default_config, Reads, Refuses}
use Rattle.regex_syntax.specs.declared.error.ErrorKind.{ErrorKind}
use Rattle.regex_syntax.specs.declared.error.ErrorKind.TheVariants.{OutOfMemory}
use Rattle.regex_vm.specs.Found.{first_match, span}
use Rattle.csvw_regex.specs.Expressions.{is_shallow, is_expression, matches_whole, describes, fits_expression}
use Rattle.csvw_regex.specs.Automata.{AreBytes, StandsFor, accepts}

-- a parsed tree stands for its text

seen : (o : Option Trace) → is_some (outcome o) ≡ is_some o
unfolding outcome
seen None = refl
seen (Some t) = refl

alike : {a b : Re} → SameCaptures a b → (text : List ℕ) → AreBytes text → matches_whole a text ≡ matches_whole b text
unfolding attempt
alike {a} {b} same text bytes =
    let rest : Rest = attempt text (look End) accept in
    sym (seen (attempt text a rest 0)) ∙ ap is_some (same.at text bytes rest 0) ∙ seen (attempt text b rest 0)

-- a text that is read as this stands for the tree
abbrev IsTreeOf : Option (Nested Re × Names) → Hir → Type 0
IsTreeOf o hir = (is_shallow o ≡ true) × ((text : List ℕ) → AreBytes text → matches_whole (meaning hir) text ≡ describes o text)

tree_of : (o : Option (Nested Re × Names)) (hir : Hir) (names : Names)
    → IsSomeAnd o (λ (re, found). (re.depth ≤ default_config.nest_limit) × SameCaptures (meaning hir) re.value × (names ≡ found)
    × (group_count (meaning hir) ≤ length names)) → IsTreeOf o hir
tree_of None hir names h = absurd h
tree_of (Some e) hir names h = (grind (arith, nat_tests, h.0), λ text bytes. alike h.1 text bytes)

pub stands_for : (expression : List ℕ) (hir : Hir) (names : Names) → Reads default_config expression hir names → StandsFor expression hir
unfolding Reads is_expression fits_expression
stands_for expression hir names h = tree_of (read default_config (chars expression)) hir names h

-- a text that the parser refuses is none

deep : (o : Option (Nested Re × Names)) → IfSome o (λ (re, found). default_config.nest_limit < re.depth) → is_shallow o ≡ false
deep None h = refl
deep (Some e) h = grind (arith, nat_tests, h)

pub refused : (expression : List ℕ) (kind : ErrorKind) → kind ≢ OutOfMemory → Refuses default_config expression kind → is_expression expression ≡ false
unfolding Refuses is_expression
refused expression kind other (inl e) = absurd (other e)
refused expression kind other (inr (inl e)) = ap is_shallow e
refused expression kind other (inr (inr h)) = deep (read default_config (chars expression)) h.1

-- the tree that ends with the end of the text

pub whole : (text : List ℕ) (re : Re) → is_some (attempt text (cat re (cat (look End) empty)) accept 0) ≡ matches_whole re text
unfolding attempt
whole text re = refl

-- a search that begins at the start of the text alone

abbrev first : Trace → Match
first t = record { start = 0; trace = t }

at_start : (o : Option Trace) → is_some (option_or (option_map first o) None) ≡ is_some o
at_start None = refl
at_start (Some t) = refl

pub accepted : (nfa : Nfa) (text : List ℕ) → is_some (first_match nfa text (length text) 0 0) ≡ accepts nfa text
unfolding first_from
accepted nfa text = at_start (run nfa text (length text) nfa.start 0)

pub found : (nfa : Nfa) (text : List ℕ) (o : Option (ℕ × ℕ)) → o ≡ option_map span (first_match nfa text (length text) 0 0)
    → is_some o ≡ accepts nfa text
found nfa text o e = ap is_some e ∙ mapped (first_match nfa text (length text) 0 0) ∙ accepted nfa text
  where
    mapped : (m : Option Match) → is_some (option_map span m) ≡ is_some m
    mapped None = refl
    mapped (Some m) = refl
