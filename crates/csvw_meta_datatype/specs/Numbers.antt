-- The characters and the patterns of numbers (Model for Tabular Data, section 6.4.2; Metadata Vocabulary for Tabular Data,
-- section 5.11.2).
use Rattle.std.specs.Prelude.{ℕ, ◌==◌, ◌&&◌, ◌||◌, not, Bool, false, List, [], ◌∷◌, ◌++◌, codes, chars, if◌then◌else◌, Option, Some, None, Result, Ok, Err}
use Rattle.std.specs.Char.{is_ascii_digit}
use Rattle.serde_json.specs.Data.{Data}
use Rattle.serde_json.specs.Find.{as_str}
use Rattle.csvw_fault.specs.declared.fault.Place.{Place}
use Rattle.csvw_datatype_core.specs.declared.number_pattern.NumberPattern.{NumberPattern}
use Rattle.csvw_datatype_core.specs.declared.number_pattern.PatternFault.{PatternFault}
use Rattle.csvw_datatype_core.specs.declared.number_pattern.PatternFault.TheVariants.{Bad, Unknown}
use Rattle.csvw_datatype_core.specs.NumberPatterns.{pattern_of}
use Rattle.csvw_datatype.specs.declared.format.NumberFormat.{NumberFormat}
use Rattle.csvw_datatype.specs.Formats.{format_rules}
use Rattle.csvw_meta_core.specs.declared.fault.MetaCode.{MetaCode}
use Rattle.csvw_meta_core.specs.declared.fault.MetaCode.TheVariants.{BadDatatype, NotSupported}
use Rattle.csvw_meta_core.specs.declared.profile.Profile.{Profile}
use Rattle.csvw_meta_core.specs.declared.profile.Profile.TheVariants.{Core, W3c}
use Rattle.csvw_meta_core.specs.declared.fault.MetaFault.{MetaFault}
use Rattle.csvw_meta_core.specs.Pointer.{below}
use Rattle.csvw_meta_core.specs.Read.{Read, fine, faulty, ◌>>=◌, under, on_kind, property, optional}
use Rattle.csvw_meta_core.specs.Rules.{also, could_read}
use Rattle.csvw_meta_core.specs.declared.others.CommonProperty.TheVariants.{Refused}
use Rattle.csvw_meta_core.specs.Others.{others}
use Rattle.csvw_meta_datatype.specs.declared.number.NumberFound.{NumberFound}
use Rattle.csvw_meta_datatype.specs.declared.number.NumberParts.{NumberParts}

-- the character of a text of one character
abbrev pub sole : List ℕ → Option ℕ
sole [] = None
sole (c ∷ []) = Some c
sole (c ∷ d ∷ cs) = None

-- none of: a digit, a sign, a mark, a tab, a line break
abbrev pub is_free : ℕ → Bool
is_free c =
    not (is_ascii_digit c) && not ((c == 43) || (c == 45) || (c == 37) || (c == 0x2030) || (c == 9) || (c == 10) || (c == 13))

abbrev pub character_found : List ℕ → Option ℕ → Read ℕ
character_found at None = faulty BadDatatype at 46
character_found at (Some c) = if is_free c then fine c else faulty BadDatatype at 46

-- a character that separates the digits of a number
abbrev pub character : List ℕ → Data → Read ℕ
character at d = on_kind at d 46 (as_str d) (λ s. character_found at (sole (chars s)))

-- the text of a pattern; in the profile core no pattern is supported
abbrev pub pattern_text : Profile → List ℕ → Data → Read (Option (List ℕ))
pattern_text Core at d = faulty NotSupported at None
pattern_text W3c at d = on_kind at d None (as_str d) (λ s. fine (Some s))

-- the decimal character is "." by default
unfoldable pub number_parts : Profile → List ℕ → Data → Read NumberParts
number_parts profile at d = do
  pattern ← property (pattern_text profile) None at d (codes "pattern")
  decimal_char ← property character 46 at d (codes "decimalChar")
  group_char ← optional character at d (codes "groupChar")
  fine (record { pattern = pattern; format = record { decimal_char = decimal_char; group_char = group_char; pattern = None } })

abbrev pub no_characters : NumberFormat
no_characters = record { decimal_char = 46; group_char = None; pattern = None }

abbrev pub is_character : ℕ → Option ℕ → Bool
is_character c None = false
is_character c (Some g) = g == c

-- the group character is the decimal character
abbrev pub clashes : NumberFormat → Bool
clashes f = is_character f.decimal_char f.group_char

abbrev pub could_read_characters : List ℕ → List MetaFault → Bool
could_read_characters at faults = could_read faults (below at (codes "decimalChar")) && could_read faults (below at (codes "groupChar"))

-- characters that differ, whichever of them could be read
abbrev pub apart : NumberFormat → NumberFormat
apart f = if clashes f then no_characters else f

-- The group character of a pattern is "," by default, if that isn't the decimal character.
abbrev pub default_group : ℕ → Option ℕ → Option ℕ
default_group c None = if c == 44 then None else Some 44
default_group c (Some g) = Some g

abbrev pub with_group : NumberFormat → NumberFormat
with_group f = record f { group_char = default_group f.decimal_char f.group_char }

-- the pattern that a text is with the characters of a format
abbrev pub pattern_in : NumberFormat → List ℕ → Result NumberPattern PatternFault
pattern_in f s = pattern_of (format_rules (with_group f)) (chars s)

abbrev pub pattern_code : PatternFault → MetaCode
pattern_code Bad = BadDatatype
pattern_code Unknown = NotSupported

abbrev pub faults_of : List ℕ → Result NumberPattern PatternFault → List MetaFault
faults_of at (Ok p) = []
faults_of at (Err fault) = record { code = pattern_code fault; pointer = at } ∷ []

-- a text that is no pattern with these characters
abbrev pub pattern_faults : List ℕ → NumberFormat → Option (List ℕ) → List MetaFault
pattern_faults at f None = []
pattern_faults at f (Some s) = faults_of (below at (codes "pattern")) (pattern_in f s)

-- characters that clash, and else a text that is no pattern
abbrev pub of_known : List ℕ → NumberParts → List MetaFault
of_known at parts =
    if clashes parts.format then record { code = BadDatatype; pointer = at } ∷ [] else pattern_faults at parts.format parts.pattern

-- These are reported if both characters could be read.
abbrev pub lawful_faults : List ℕ → List MetaFault → NumberParts → List MetaFault
lawful_faults at faults parts = if could_read_characters at faults then of_known at parts else []

-- the format with the pattern, if the text is one
abbrev pub patterned : NumberFormat → Result NumberPattern PatternFault → NumberFormat
patterned f (Ok p) = record (with_group f) { pattern = Some p }
patterned f (Err fault) = f

abbrev pub with_pattern : NumberFormat → Option (List ℕ) → NumberFormat
with_pattern f None = f
with_pattern f (Some s) = patterned f (pattern_in f s)

abbrev pub format_of : NumberParts → NumberFormat
format_of parts = with_pattern (apart parts.format) parts.pattern

abbrev pub lawful_number : Profile → List ℕ → Data → Read NumberFormat
lawful_number profile at d = under format_of (also (number_parts profile at d) (lawful_faults at))

abbrev pub format_names : List (List ℕ)
format_names = codes "pattern" ∷ codes "decimalChar" ∷ codes "groupChar" ∷ []

unfoldable pub number_form : Profile → Place → List ℕ → Data → Read NumberFound
number_form profile place at d = do
  format ← lawful_number profile at d
  warnings ← others (format_names ++ []) Refused place at d
  fine (record { format = format; warnings = warnings })
