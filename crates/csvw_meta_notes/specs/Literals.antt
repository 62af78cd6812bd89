-- Literals that are objects with `@value` (Metadata Vocabulary for Tabular Data, section 6.2).
use Rattle.std.specs.Prelude.{ℕ, List, Bool, true, false, codes, Option, Some, None, ⊤, not, if◌then◌else◌}
use Rattle.serde_json.specs.Data.{Data, Members, null, boolean, number, string, array, object}
use Rattle.serde_json.specs.Find.{get, is_float}
use Rattle.csvw_meta_core.specs.declared.fault.MetaCode.TheVariants.{BadProperty}
use Rattle.csvw_meta_core.specs.Pointer.{below}
use Rattle.csvw_meta_core.specs.Read.{Read, fine, faulty, wrong, ◌>>=◌, optional}
use Rattle.csvw_meta_core.specs.Kinds.{language}
use Rattle.csvw_description.specs.declared.note.NoteLiteral.{NoteLiteral}
use Rattle.csvw_meta_notes.specs.Members.{literal_member, each_member}
use Rattle.csvw_meta_notes.specs.Names.{type_name}
use Rattle.csvw_meta_notes.specs.Scalars.{typed, tagged, scalar}

-- A literal has a language or a type, but not both.
abbrev pub one_of : List ℕ → Option Data → Option Data → Read ⊤
one_of at (Some l) (Some t) = faulty BadProperty at tt
one_of at (Some l) None = fine tt
one_of at None (Some t) = fine tt
one_of at None None = fine tt

-- a whole number or a boolean
abbrev pub is_no_text : Data → Bool
is_no_text null = false
is_no_text (boolean b) = true
is_no_text (number n) = not (is_float n)
is_no_text (string s) = false
is_no_text (array ds) = false
is_no_text (object ms) = false

-- Only a text has a language.
abbrev pub for_text : List ℕ → Data → Option Data → Read ⊤
for_text at value None = fine tt
for_text at value (Some l) = if is_no_text value then wrong (below at (codes "@language")) l tt else fine tt

-- a literal with its own language or type
abbrev pub with_own : NoteLiteral → Option (List ℕ) → Option (List ℕ) → NoteLiteral
with_own plain (Some language) type = tagged language plain.text
with_own plain None (Some type) = typed type plain.text
with_own plain None None = plain

-- the literal of an object of these members, with that `@value`
unfoldable pub literal : List ℕ → Data → Members → Data → Read NoteLiteral
literal at d ms value = do
  others ← each_member literal_member at ms
  alone ← one_of at (get (codes "@language") d) (get (codes "@type") d)
  fitting ← for_text at value (get (codes "@language") d)
  plain ← scalar None (below at (codes "@value")) value
  language ← optional (language BadProperty) at d (codes "@language")
  type ← optional type_name at d (codes "@type")
  fine (with_own plain language type)
