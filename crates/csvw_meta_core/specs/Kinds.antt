-- The kinds of value that a property has (Metadata Vocabulary for Tabular Data, section 5.1).
use Rattle.std.specs.Prelude.{ℕ, List, [], ◌∷◌, nat_le, ◌==◌, bytes_eq, length, if◌then◌else◌, option_and_then, Bool, false, ⊤}
use Rattle.std.specs.Str.{chars}
use Rattle.serde_json.specs.Data.{Data, null, boolean, number, string, array, object}
use Rattle.serde_json.specs.Find.{as_bool, as_str, as_number, as_u64}
use Rattle.csvw_text.specs.Language.{is_language_tag}
use Rattle.csvw_meta_core.specs.declared.fault.MetaCode.{MetaCode}
use Rattle.csvw_meta_core.specs.declared.fault.MetaCode.TheVariants.{BadProperty, TooMany}
use Rattle.csvw_meta_core.specs.declared.kinds.Sole.{Sole}
use Rattle.csvw_meta_core.specs.declared.kinds.Sole.TheVariants.{Empty, One, Several}
use Rattle.csvw_meta_core.specs.Read.{Read, fine, faulty, wrong, on_kind, on_kind_as, each}

abbrev pub truth : List ℕ → Data → Read Bool
truth at d = on_kind at d false (as_bool d) fine

abbrev pub text : List ℕ → Data → Read (List ℕ)
text at d = on_kind at d [] (as_str d) fine

-- a text that isn't empty
abbrev pub some_text : List ℕ → Data → Read (List ℕ)
some_text at d = on_kind at d [] (as_str d) (λ s. if length s == 0 then faulty BadProperty at [] else fine s)

-- one given text and no other
abbrev pub fixed : List ℕ → List ℕ → Data → Read ⊤
fixed word at d = on_kind at d tt (as_str d) (λ s. if bytes_eq s word then fine tt else faulty BadProperty at tt)

-- a whole number up to a limit
abbrev pub whole : ℕ → List ℕ → Data → Read ℕ
whole most at d =
    on_kind at d 0 (option_and_then as_u64 (as_number d)) (λ n. if nat_le n most then fine n else faulty TooMany at 0)

-- a whole number of any size
abbrev pub any_whole : List ℕ → Data → Read ℕ
any_whole at d = on_kind at d 0 (option_and_then as_u64 (as_number d)) fine

-- how many characters there are: none, one or several
abbrev pub sole_of : List ℕ → Sole
sole_of [] = Empty
sole_of (c ∷ []) = One c
sole_of (c ∷ d ∷ cs) = Several

abbrev pub one_of : MetaCode → List ℕ → Sole → Read ℕ
one_of several at Empty = faulty BadProperty at 0
one_of several at (One c) = fine c
one_of several at Several = faulty several at 0

-- one character; the code for several characters is given
abbrev pub character : MetaCode → List ℕ → Data → Read ℕ
character several at d = on_kind at d 0 (as_str d) (λ s. one_of several at (sole_of (chars s)))

-- a text, or an array of texts
abbrev pub texts : List ℕ → Data → Read (List (List ℕ))
texts at (string s) = fine (s ∷ [])
texts at (array ds) = each text at 0 ds
texts at null = wrong at null []
texts at (boolean b) = wrong at (boolean b) []
texts at (number n) = wrong at (number n) []
texts at (object ms) = wrong at (object ms) []

-- a language tag; the code for another value is given
abbrev pub language : MetaCode → List ℕ → Data → Read (List ℕ)
language code at d = on_kind_as code at d [] (as_str d) (λ s. if is_language_tag s then fine s else faulty code at [])
