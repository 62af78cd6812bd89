-- What clap's matches say about the words.
use Rattle.std.proofs.Common.{◌≡◌, ◌∙◌, List, [], refl, sym, ap, ap₂, true, subst, find, option_and_then, option_map, unwrap_or, Option, Some, None, Result}
use Rattle.std.specs.Str.{bytes_eq}
use Rattle.clap.specs.Words.{App, FailsBy, HasMatchesOf, Row, Text, fault_of, is_simple, is_simple_and_free, matched_of, rows_of, subcommand_name_of}
use Rattle.clap.specs.Words.{subcommand_of, subcommand_rows_of}
use Rattle.clap.specs.Facts.{Entry}
use Rattle.clap.specs.Walk.{row_of}
use Rattle.clap.specs.declared.error.Error.{Error}
use Rattle.clap.specs.declared.parser.matches.ArgMatches.{ArgMatches}
use Rattle.clap.specs.declared.parser.matches.Found.{Found}
use Rattle.clap.specs.declared.parser.matches.ValueSource.{ValueSource}
use Rattle.clap.proofs.OnLiterals.{clap_on_literals}
use Rattle.clap.proofs.WalkLemmas.{find_row}
use Rattle.csvw_command_core.specs.Asked.{Asks, Reads, flag_of, is_from_words, program_app}
use Rattle.csvw_command_core.specs.declared.request.Request.{Request}

pub program_is_simple : is_simple program_app ≡ true
unfolding clap_on_literals program_app
program_is_simple = refl

pub program_is_free : is_simple_and_free program_app ≡ true
unfolding clap_on_literals program_app
program_is_free = refl

-- a pair by its parts
paired : (o : Option (Text × List Row)) (name : Text) (rows : List Row) → option_map (λ p. p.0) o ≡ Some name → option_map (λ p. p.1) o ≡ Some rows
    → o ≡ Some (name, rows)
paired None name rows p q = cc
paired (Some x) name rows p q = ap₂ (λ n r. Some (n, r)) (ap (λ o. unwrap_or o name) p) (ap (λ o. unwrap_or o rows) q)

map_twice : {A B C : Type 0} (f : A → B) (h : B → C) (o : Option A) → option_map h (option_map f o) ≡ option_map (λ x. h (f x)) o
map_twice f h None = refl
map_twice f h (Some x) = refl

-- the name of a subcommand is that of its rows
named : (m : ArgMatches) → option_map (λ p. p.0) (subcommand_rows_of m) ≡ subcommand_name_of m
named m = map_twice _ _ _

-- the source of a value, by the rows
pub flag_known : (f : Found) (id : Text) (o : Option ValueSource) → o ≡ option_and_then (λ a. a.source) (matched_of f id)
    → is_from_words o ≡ flag_of id (rows_of f)
flag_known f id o is = ap is_from_words
    (is ∙ go (find (λ e. bytes_eq e.0.now id) f.entries.items) ∙ ap (option_and_then (λ (r : Row). r.source)) (sym (find_row f.entries.items id)))
  where
    go : (e : Option Entry) → option_and_then (λ a. a.source) (option_map (λ e. e.1) e) ≡ option_and_then (λ (r : Row). r.source) (option_map row_of e)
    go None = refl
    go (Some e) = refl

-- the matches of the subcommand are what the words ask for
pub asks_this : (words : List Text) (m : ArgMatches) (name : Text) (rows : List Row) (request : Request) → fault_of program_app words ≡ []
    → subcommand_rows_of m ≡ subcommand_of program_app words
    → subcommand_name_of m ≡ Some name → option_map (λ p. p.1) (subcommand_rows_of m) ≡ Some rows → Reads name rows request → Asks words request
asks_this words m name rows request no_fault entered name_is rows_are reads = record {
  no_fault = no_fault;
  name = name;
  rows = rows;
  subcommand = sym entered ∙ paired (subcommand_rows_of m) name rows (named m ∙ name_is) rows_are;
  reads = reads;
}

-- the kinds that the words give, at a command line that is the program's
pub known_kinds : {X : Type 0} (app : App) (words : List Text) (r : Result X Error) → app ≡ program_app
    → (is_simple_and_free app ≡ true → FailsBy (fault_of app words) r) → FailsBy (fault_of program_app words) r
known_kinds app words r is kinds = subst (λ a. FailsBy (fault_of a words) r) is (kinds (ap is_simple_and_free is ∙ program_is_free))

-- the subcommand that they give
pub known_rows : (app : App) (words : List Text) (m : ArgMatches) → app ≡ program_app → HasMatchesOf app words m
    → subcommand_rows_of m ≡ subcommand_of program_app words
known_rows app words m is has = (has (ap is_simple is ∙ program_is_simple)).1 ∙ ap (λ a. subcommand_of a words) is
