-- The format of a datatype of a document, and its faults (Metadata Vocabulary for Tabular Data, section 5.11.2).
use Rattle.std.specs.Prelude.{ℕ, List, [], Option, Some, None, Result, Ok, Err}
use Rattle.serde_json.specs.Data.{Data}
use Rattle.serde_json.specs.Find.{as_str}
use Rattle.csvw_fault.specs.declared.fault.Place.{Place}
use Rattle.csvw_datatype_core.specs.declared.number_pattern.NumberPattern.{NumberPattern}
use Rattle.csvw_datatype_core.specs.declared.number_pattern.PatternFault.{PatternFault}
use Rattle.csvw_datatype.specs.declared.simple.Simple.{Simple}
use Rattle.csvw_datatype.specs.declared.simple.Simple.TheVariants as simples
use Rattle.csvw_datatype.specs.declared.simple.TextType.{TextType}
use Rattle.csvw_datatype.specs.declared.simple.TextType.TheVariants as types
use Rattle.csvw_datatype.specs.declared.format.Format.{Format}
use Rattle.csvw_datatype.specs.declared.format.Format.TheVariants as formats
use Rattle.csvw_meta_core.specs.declared.fault.MetaCode.TheVariants.{NotSupported}
use Rattle.csvw_meta_core.specs.declared.profile.Profile.{Profile}
use Rattle.csvw_meta_core.specs.declared.profile.Profile.TheVariants.{Core, W3c}
use Rattle.csvw_meta_core.specs.Read.{Read, fine, faulty, under, on_linked_object}
use Rattle.csvw_meta_datatype.specs.declared.number.NumberFound.{NumberFound}
use Rattle.csvw_meta_datatype.specs.declared.format.FormatFound.{FormatFound}
use Rattle.csvw_meta_datatype.specs.Expressions.{text_expression}
use Rattle.csvw_meta_datatype.specs.Numbers.{no_characters, number_form, pattern_code, pattern_in, patterned}
use Rattle.csvw_meta_datatype.specs.Patterns.{clock_format, date_format, moment_format, stamp_format, zoned_date_format}
use Rattle.csvw_meta_datatype.specs.Truths.{truth_format}

abbrev pub no_format : FormatFound
no_format = record { format = None; warnings = [] }

-- a format without warnings
abbrev pub found : Format → FormatFound
found f = record { format = Some f; warnings = [] }

abbrev pub number_found : NumberFound → FormatFound
number_found f = record { format = Some (formats.Number f.format); warnings = f.warnings }

-- a text as the pattern of numbers, with the characters "." and ","
abbrev pub pattern_read : List ℕ → Result NumberPattern PatternFault → Read FormatFound
pattern_read at (Ok p) = fine (found (formats.Number (patterned no_characters (Ok p))))
pattern_read at (Err fault) = faulty (pattern_code fault) at no_format

abbrev pub text_format : List ℕ → List ℕ → Read FormatFound
text_format at s = pattern_read at (pattern_in no_characters s)

-- in the profile core a text is not supported
abbrev pub text_or : Profile → List ℕ → Option (List ℕ) → Read FormatFound → Read FormatFound
text_or W3c at (Some s) r = text_format at s
text_or W3c at None r = r
text_or Core at o r = r

-- an object with characters and a pattern, or a pattern alone
abbrev pub number_format : Profile → Place → List ℕ → Data → Read FormatFound
number_format profile place at d =
    text_or profile at (as_str d) (on_linked_object at d no_format (under number_found (number_form profile place at d)))

abbrev pub expression_found : Option (List ℕ) → FormatFound
expression_found None = no_format
expression_found (Some e) = found (formats.Expression e)

-- a regular expression; in the profile core none is supported
abbrev pub expression_format : Profile → List ℕ → Data → Read FormatFound
expression_format profile at d = under expression_found (text_expression profile at d)

-- The format of a type that keeps texts. That of a time of day, a date or a moment is a pattern, that of a part of a date is not supported, and every
-- other one is a regular expression.
abbrev pub format_of_texts : Profile → TextType → List ℕ → Data → Read FormatFound
format_of_texts profile types.Time at d = under (λ f. found (formats.Time f)) (clock_format at d)
format_of_texts profile types.Date at d = under (λ f. found (formats.ZonedDay f)) (zoned_date_format at d)
format_of_texts profile (types.DateTime zone) at d = under (λ f. found (formats.Stamp f)) (stamp_format at d)
format_of_texts profile (types.Part part) at d = faulty NotSupported at no_format
format_of_texts profile _ at d = expression_format profile at d

-- the format of a type
unfoldable pub format : Profile → Simple → Place → List ℕ → Data → Read FormatFound
format profile simples.Text place at d = expression_format profile at d
format profile simples.Uri place at d = expression_format profile at d
format profile (simples.Other t) place at d = format_of_texts profile t at d
format profile (simples.Floating t) place at d = number_format profile place at d
format profile simples.Truth place at d = under (λ f. found (formats.Truth f)) (truth_format at d)
format profile simples.Whole place at d = number_format profile place at d
format profile (simples.Derived w) place at d = number_format profile place at d
format profile simples.Decimal place at d = number_format profile place at d
format profile simples.Day place at d = under (λ f. found (formats.Day f)) (date_format at d)
format profile simples.Moment place at d = under (λ f. found (formats.Moment f)) (moment_format at d)
