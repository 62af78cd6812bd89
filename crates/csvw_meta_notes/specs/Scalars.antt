-- Literals that are a text, a number or a boolean (Metadata Vocabulary for Tabular Data, section 6.2).
use Rattle.std.specs.Prelude.{ℕ, List, [], Bool, true, false, codes, decimal, Option, Some, None}
use Rattle.std.specs.Fmt.{signed_decimal}
use Rattle.serde_json.specs.Data.{Num, unsigned, negative, float, Data, null, boolean, number, string, array, object}
use Rattle.csvw_meta_core.specs.declared.fault.MetaCode.TheVariants.{NotSupported}
use Rattle.csvw_meta_core.specs.Read.{Read, fine, faulty, wrong}
use Rattle.csvw_description.specs.declared.note.NoteLiteral.{NoteLiteral}
use Rattle.csvw_iri.specs.Vocabulary.{xsd_string, xsd_integer, xsd_boolean, lang_string}

-- a literal of a datatype
abbrev pub typed : List ℕ → List ℕ → NoteLiteral
typed datatype text = record { text = text; datatype = datatype; language = None }

-- a literal in a language
abbrev pub tagged : List ℕ → List ℕ → NoteLiteral
tagged language text = record { text = text; datatype = lang_string; language = Some language }

-- a text, in a language if there is one
abbrev pub in_language : Option (List ℕ) → List ℕ → NoteLiteral
in_language None text = typed xsd_string text
in_language (Some language) text = tagged language text

abbrev pub truth_text : Bool → List ℕ
truth_text true = codes "true"
truth_text false = codes "false"

abbrev pub no_literal : NoteLiteral
no_literal = typed [] []

-- a number, which must be whole
abbrev pub whole_literal : List ℕ → Num → Read NoteLiteral
whole_literal at (unsigned n) = fine (typed xsd_integer (decimal n))
whole_literal at (negative z) = fine (typed xsd_integer (signed_decimal z))
whole_literal at (float x) = faulty NotSupported at no_literal

-- a text, a whole number or a boolean, with the language of a text
abbrev pub scalar : Option (List ℕ) → List ℕ → Data → Read NoteLiteral
scalar language at (boolean b) = fine (typed xsd_boolean (truth_text b))
scalar language at (number n) = whole_literal at n
scalar language at (string s) = fine (in_language language s)
scalar language at null = wrong at null no_literal
scalar language at (array ds) = wrong at (array ds) no_literal
scalar language at (object ms) = wrong at (object ms) no_literal
