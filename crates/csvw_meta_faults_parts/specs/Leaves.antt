-- The kinds of value of the crates below that have at most one fault, and the values that stand in: `length_has_one` and others
-- (Metadata Vocabulary for Tabular Data, section 5).
use Rattle.std.specs.Prelude.{ℕ, List, [], Bool, true, false, Option, Some, None, Result, Ok, Err, if◌then◌else◌, option_and_then, refl, ℤ}
use Rattle.serde_json.specs.Data.{Data, null, boolean, number, string, array, object}
use Rattle.serde_json.specs.Find.{as_bool, as_integer, as_str, as_number, as_u64}
use Rattle.csvw_meta_core.specs.Kinds.{truth}
use Rattle.std.specs.Str.{chars}
use Rattle.csvw_datatype.specs.declared.simple.Simple.{Simple}
use Rattle.csvw_datatype.specs.declared.simple.Simple.TheVariants.{Text}
use Rattle.csvw_datatype.specs.declared.value.Value.{Value}
use Rattle.csvw_datatype.specs.Strings.{has_length}
use Rattle.csvw_datatype.specs.Bounds.{bound_of, bound_of_whole}
use Rattle.csvw_datatype_core.specs.declared.date.DateFormat.TheVariants.{YearFirst}
use Rattle.csvw_datatype_core.specs.declared.moment.MomentFormat.TheVariants.{Seconds}
use Rattle.csvw_datatype_core.specs.declared.clock.ClockFormat.TheVariants as clocks
use Rattle.csvw_template.specs.declared.fault.TemplateFault.{TemplateFault}
use Rattle.csvw_template.specs.declared.part.Part.{Part}
use Rattle.csvw_template.specs.Reading as reading
use Rattle.csvw_meta_core.specs.declared.fault.MetaCode.{MetaCode}
use Rattle.csvw_meta_core.specs.declared.fault.MetaCode.TheVariants.{BadDatatype, BadProperty}
use Rattle.csvw_meta_core.specs.declared.profile.Profile.{Profile}
use Rattle.csvw_meta_core.specs.declared.profile.Profile.TheVariants.{Core, W3c}
use Rattle.csvw_meta_core.specs.Read.{Read, fine, faulty, on_kind_as, wrong}
use Rattle.csvw_meta_datatype.specs.Lengths.{length, length_on}
use Rattle.csvw_meta_datatype.specs.Bounds.{bound, bound_found, bound_of_integer, is_dated}
use Rattle.csvw_meta_datatype.specs.Numbers.{character, character_found, is_free, pattern_text, sole}
use Rattle.csvw_regex.specs.Expressions.{is_expression}
use Rattle.csvw_meta_datatype.specs.Expressions.{expression_of, text_expression}
use Rattle.csvw_meta_datatype.specs.Base.{base, simple_found}
use Rattle.csvw_meta_datatype.specs.Names.{named_of}
use Rattle.csvw_datatype_core.specs.Clocks.{clock_format_of}
use Rattle.csvw_datatype_core.specs.ZonedDates.{zoned_format_of}
use Rattle.csvw_datatype_core.specs.PatternLists.{date_format_of}
use Rattle.csvw_datatype_core.specs.StampFormats.{stamp_format_of}
use Rattle.csvw_meta_datatype.specs.Patterns.{clock_format, core_format_of, date_format, moment_format, pattern_found, plain, plain_date, stamp_format, zoned_date_format}
use Rattle.csvw_datatype.specs.declared.format.TruthFormat.{TruthFormat}
use Rattle.csvw_meta_datatype.specs.Truths.{no_truths, truth_format, truth_format_of, truths_found}
use Rattle.csvw_meta_inherited.specs.TemplateText.{template_text, told_template}
use Rattle.csvw_meta_keys.specs.References.{resource, schema_id, schema_reference}
use Rattle.csvw_meta_core.specs.Links.{told}
use Rattle.csvw_iri.specs.Link.{resolved}
use Rattle.url.specs.Parts.{Parts}
use Rattle.csvw_meta_faults_core.specs.Sole.{AtMostOne, of_kind, of_link, of_test, url_has_one}
use Rattle.csvw_meta_faults_core.specs.StandsIn.{StandsIn}

-- ---- the value that stands in

pub in_kind : {A B : Type 0} (code : MetaCode) (at : List ℕ) (d : Data) (dummy : B) (o : Option A) (reads : A → Read B)
    → ((a : A) → StandsIn dummy (reads a)) → StandsIn dummy (on_kind_as code at d dummy o reads)
in_kind code at d dummy None reads h = refl
in_kind code at d dummy (Some a) reads h = h a

pub in_test : {A : Type 0} (dummy : A) (b : Bool) (r s : Read A) → StandsIn dummy r → StandsIn dummy s → StandsIn dummy (if b then r else s)
in_test dummy true r s h k = h
in_test dummy false r s h k = k

-- ---- lengths

length_on_has_one : (s : Simple) (at : List ℕ) (n : ℕ) → AtMostOne (length_on s at n).faults
length_on_has_one s at n = of_test (has_length s) (fine (Some n)) (faulty BadDatatype at None) tt tt

pub length_has_one : (s : Simple) (at : List ℕ) (d : Data) → AtMostOne (length s at d).faults
length_has_one s at d =
    of_kind BadProperty at d None (option_and_then as_u64 (as_number d)) (length_on s at) (length_on_has_one s at)

length_on_stands_in : (s : Simple) (at : List ℕ) (n : ℕ) → StandsIn None (length_on s at n)
length_on_stands_in s at n = in_test None (has_length s) (fine (Some n)) (faulty BadDatatype at None) tt refl

pub length_stands_in : (s : Simple) (at : List ℕ) (d : Data) → StandsIn None (length s at d)
length_stands_in s at d =
    in_kind BadProperty at d None (option_and_then as_u64 (as_number d)) (length_on s at) (length_on_stands_in s at)

-- ---- bounds

found_has_one : (at : List ℕ) (o : Option Value) → AtMostOne (bound_found at o).faults
found_has_one at None = tt
found_has_one at (Some v) = tt

found_stands_in : (at : List ℕ) (o : Option Value) → StandsIn None (bound_found at o)
found_stands_in at None = refl
found_stands_in at (Some v) = tt

integer_has_one : (s : Simple) (at : List ℕ) (d : Data) (o : Option ℤ) → AtMostOne (bound_of_integer s at d o).faults
integer_has_one s at d None = tt
integer_has_one s at d (Some z) =
    of_test (is_dated s) (wrong at d None) (bound_found at (bound_of_whole s z)) tt (found_has_one at (bound_of_whole s z))

integer_stands_in : (s : Simple) (at : List ℕ) (d : Data) (o : Option ℤ) → StandsIn None (bound_of_integer s at d o)
integer_stands_in s at d None = refl
integer_stands_in s at d (Some z) =
    in_test None (is_dated s) (wrong at d None) (bound_found at (bound_of_whole s z)) refl (found_stands_in at (bound_of_whole s z))

pub bound_has_one : (s : Simple) (at : List ℕ) (d : Data) → AtMostOne (bound s at d).faults
bound_has_one s at (string text) = found_has_one at (bound_of s text)
bound_has_one s at (number n) = integer_has_one s at (number n) (as_integer n)
bound_has_one s at null = tt
bound_has_one s at (boolean b) = tt
bound_has_one s at (array ds) = tt
bound_has_one s at (object ms) = tt

pub bound_stands_in : (s : Simple) (at : List ℕ) (d : Data) → StandsIn None (bound s at d)
bound_stands_in s at (string text) = found_stands_in at (bound_of s text)
bound_stands_in s at (number n) = integer_stands_in s at (number n) (as_integer n)
bound_stands_in s at null = refl
bound_stands_in s at (boolean b) = refl
bound_stands_in s at (array ds) = refl
bound_stands_in s at (object ms) = refl

-- ---- the characters of numbers

character_found_has_one : (at : List ℕ) (o : Option ℕ) → AtMostOne (character_found at o).faults
character_found_has_one at None = tt
character_found_has_one at (Some c) = of_test (is_free c) (fine c) (faulty BadDatatype at 46) tt tt

character_found_stands_in : (at : List ℕ) (o : Option ℕ) → StandsIn 46 (character_found at o)
character_found_stands_in at None = refl
character_found_stands_in at (Some c) = in_test 46 (is_free c) (fine c) (faulty BadDatatype at 46) tt refl

pub character_has_one : (at : List ℕ) (d : Data) → AtMostOne (character at d).faults
character_has_one at d =
    of_kind BadProperty at d 46 (as_str d) (λ s. character_found at (sole (chars s))) (λ s. character_found_has_one at (sole (chars s)))

pub character_stands_in : (at : List ℕ) (d : Data) → StandsIn 46 (character at d)
character_stands_in at d =
    in_kind BadProperty at d 46 (as_str d) (λ s. character_found at (sole (chars s))) (λ s. character_found_stands_in at (sole (chars s)))

pub pattern_text_has_one : (profile : Profile) (at : List ℕ) (d : Data) → AtMostOne (pattern_text profile at d).faults
pattern_text_has_one Core at d = tt
pattern_text_has_one W3c at d = of_kind BadProperty at d None (as_str d) (λ s. fine (Some s)) (λ s. tt)

pub pattern_text_stands_in : (profile : Profile) (at : List ℕ) (d : Data) → StandsIn None (pattern_text profile at d)
pattern_text_stands_in Core at d = refl
pattern_text_stands_in W3c at d = in_kind BadProperty at d None (as_str d) (λ s. fine (Some s)) (λ s. tt)

-- ---- formats

pattern_has_one : {F : Type 0} (dummy : F) (at : List ℕ) (o : Option F) → AtMostOne (pattern_found dummy at o).faults
pattern_has_one dummy at None = tt
pattern_has_one dummy at (Some f) = tt

pub date_has_one : (at : List ℕ) (d : Data) → AtMostOne (date_format at d).faults
date_has_one at d =
    of_kind BadProperty at d YearFirst (as_str d) (λ s. pattern_found YearFirst at (date_format_of s))
    (λ s. pattern_has_one YearFirst at (date_format_of s))

pub moment_has_one : (at : List ℕ) (d : Data) → AtMostOne (moment_format at d).faults
moment_has_one at d =
    of_kind BadProperty at d Seconds (as_str d) (λ s. pattern_found Seconds at (core_format_of s)) (λ s. pattern_has_one Seconds at (core_format_of s))

pub stamp_has_one : (at : List ℕ) (d : Data) → AtMostOne (stamp_format at d).faults
stamp_has_one at d =
    of_kind BadProperty at d (plain Seconds) (as_str d) (λ s. pattern_found (plain Seconds) at (stamp_format_of s))
    (λ s. pattern_has_one (plain Seconds) at (stamp_format_of s))

pub zoned_date_has_one : (at : List ℕ) (d : Data) → AtMostOne (zoned_date_format at d).faults
zoned_date_has_one at d =
    of_kind BadProperty at d plain_date (as_str d) (λ s. pattern_found plain_date at (zoned_format_of s))
    (λ s. pattern_has_one plain_date at (zoned_format_of s))

pub clock_has_one : (at : List ℕ) (d : Data) → AtMostOne (clock_format at d).faults
clock_has_one at d =
    of_kind BadProperty at d clocks.Any (as_str d) (λ s. pattern_found clocks.Any at (clock_format_of s))
    (λ s. pattern_has_one clocks.Any at (clock_format_of s))

expression_of_has_one : (at s : List ℕ) → AtMostOne (expression_of at s).faults
expression_of_has_one at s = of_test (is_expression s) (fine (Some s)) (faulty BadDatatype at None) tt tt

pub expression_has_one : (profile : Profile) (at : List ℕ) (d : Data) → AtMostOne (text_expression profile at d).faults
expression_has_one Core at d = tt
expression_has_one W3c at d = of_kind BadProperty at d None (as_str d) (expression_of at) (expression_of_has_one at)

truths_have_one : (at : List ℕ) (o : Option TruthFormat) → AtMostOne (truths_found at o).faults
truths_have_one at None = tt
truths_have_one at (Some f) = tt

pub truth_format_has_one : (at : List ℕ) (d : Data) → AtMostOne (truth_format at d).faults
truth_format_has_one at d =
    of_kind BadProperty at d no_truths (as_str d) (λ s. truths_found at (truth_format_of s)) (λ s. truths_have_one at (truth_format_of s))

-- ---- types

simple_has_one : (at : List ℕ) (o : Option Simple) → AtMostOne (simple_found at o).faults
simple_has_one at None = tt
simple_has_one at (Some s) = tt

pub base_has_one : (profile : Profile) (at : List ℕ) (d : Data) → AtMostOne (base profile at d).faults
base_has_one profile at d =
    of_kind BadProperty at d Text (as_str d) (λ s. simple_found at (named_of profile s)) (λ s. simple_has_one at (named_of profile s))

-- ---- templates

told_has_one : (at : List ℕ) (result : Result (List Part) TemplateFault) → AtMostOne (told_template at result).faults
told_has_one at (Ok parts) = tt
told_has_one at (Err fault) = tt

pub template_has_one : (at : List ℕ) (d : Data) → AtMostOne (template_text at d).faults
template_has_one at d =
    of_kind BadProperty at d [] (as_str d) (λ s. told_template at (reading.template s)) (λ s. told_has_one at (reading.template s))

-- ---- tables of foreign keys

pub resource_has_one : (base : Parts) (at : List ℕ) (d : Data) → AtMostOne (resource base at d).faults
resource_has_one base at d = url_has_one base at d

schema_id_has_one : (base : Parts) (at : List ℕ) (d : Data) → AtMostOne (schema_id base at d).faults
schema_id_has_one base at d =
    of_kind BadProperty at d [] (as_str d) (λ s. told at [] (resolved base s)) (λ s. of_link at [] (resolved base s))

pub schema_reference_has_one : (profile : Profile) (base : Parts) (beside : Bool) (at : List ℕ) (d : Data)
    → AtMostOne (schema_reference profile base beside at d).faults
schema_reference_has_one Core base beside at d = tt
schema_reference_has_one W3c base true at d = tt
schema_reference_has_one W3c base false at d = schema_id_has_one base at d

-- ---- booleans

pub truth_stands_in : (at : List ℕ) (d : Data) → StandsIn false (truth at d)
truth_stands_in at d = in_kind BadProperty at d false (as_bool d) fine (λ _. tt)
