-- What is ignored in the parts of a document is reported only as warnings, whatever other faults there are.
use Rattle.std.proofs.Common.{ℕ, ◌+◌, List, [], ◌∷◌, ◌++◌, Bool, true, false, Option, Some, None, refl, codes, if◌then◌else◌, IfSome, All, Result, Ok, Err}
use Rattle.std.proofs.lemmas.List.Elements.{All-cons, All-nil}
use Rattle.serde_json.specs.Data.{Data, null, boolean, number, string, array, object, Items, no_items, item, Members, no_members, member}
use Rattle.serde_json.specs.Find.{as_str, get}
use Rattle.url.specs.Parts.{Parts}
use Rattle.csvw_fault.specs.declared.fault.Fault.{Fault}
use Rattle.csvw_fault.specs.declared.fault.Place.{Place}
use Rattle.csvw_datatype_core.specs.declared.number_pattern.NumberPattern.{NumberPattern}
use Rattle.csvw_datatype_core.specs.declared.number_pattern.PatternFault.{PatternFault}
use Rattle.csvw_datatype.specs.declared.simple.Simple.{Simple}
use Rattle.csvw_datatype.specs.declared.simple.Simple.TheVariants as simples
use Rattle.csvw_datatype.specs.declared.simple.TextType.TheVariants as types
use Rattle.csvw_meta_core.specs.declared.fault.MetaFault.{MetaFault}
use Rattle.csvw_meta_core.specs.declared.others.CommonProperty.{CommonProperty}
use Rattle.csvw_meta_core.specs.declared.others.CommonProperty.TheVariants.{Allowed, Refused}
use Rattle.csvw_meta_core.specs.Links.{id}
use Rattle.csvw_meta_core.specs.Others.{has_colon, other, others, others_in, warning_at}
use Rattle.csvw_meta_core.specs.Pointer.{below, item_at}
use Rattle.csvw_meta_core.specs.Read.{Read, each_numbered, found, given, needed, on_linked_object, on_object, optional, property, under}
use Rattle.csvw_meta_notes.specs.Members.{has_at}
use Rattle.csvw_meta_notes.specs.Unlisted.{all_warnings, unlisted}
use Rattle.csvw_meta_notes.specs.Warnings.{all_warned, annotation_warnings, common_warned, given_warned, members_warned, note_warnings}
use Rattle.csvw_meta_notes.specs.Warnings.{unless_ignored, warned}
use Rattle.csvw_meta_datatype.specs.Expressions.{text_expression}
use Rattle.csvw_meta_datatype.specs.Formats.{expression_format, expression_found, format, no_format, number_format, number_found, pattern_read, text_or}
use Rattle.csvw_meta_datatype.specs.Numbers.{format_names, no_characters, number_form, pattern_in}
use Rattle.csvw_meta_datatype.specs.declared.format.FormatFound.{FormatFound}
use Rattle.csvw_meta_datatype.specs.Base.{base}
use Rattle.csvw_meta_datatype.specs.Datatypes.{based, datatype, form, named, of_type}
use Rattle.csvw_meta_core.specs.declared.profile.Profile.{Profile}
use Rattle.csvw_meta_core.specs.declared.profile.Profile.TheVariants.{Core, W3c}
use Rattle.csvw_meta_datatype.specs.Names.{datatype_names, simples_of}
use Rattle.csvw_meta_datatype.specs.Whichever.{by_faults}
use Rattle.csvw_meta_datatype.specs.declared.form.DatatypeFound.{DatatypeFound}
use Rattle.csvw_meta_keys.specs.Described as described
use Rattle.csvw_meta_keys.specs.ForeignKeys.{foreign_key, foreign_key_names, foreign_key_of, foreign_keys, no_foreign_key}
use Rattle.csvw_meta_keys.specs.Keys.{keys}
use Rattle.csvw_meta_keys.specs.References.{no_reference, reference, reference_names, reference_of}
use Rattle.csvw_meta_keys.specs.declared.foreign_key.ForeignKeyFound.{ForeignKeyFound}
use Rattle.csvw_validity_laws.proofs.Quiet.{Quiet, quiet_flat, quiet_join}

-- The type of a value, for types whose names are their crates' own.
abbrev pub TypeOf : {A : Type 0} → A → Type 0
TypeOf {A} a = A

-- ---- the value of a part, whatever faults it has

module _ {A : Type 0} (P : A → Type 0) where
  pub object_value : (at : List ℕ) (d : Data) (dummy : A) (r : Read A) → P dummy → P r.value → P (on_object at d dummy r).value
  object_value at (object ms) dummy r none h = h
  object_value at null dummy r none h = none
  object_value at (boolean b) dummy r none h = none
  object_value at (number n) dummy r none h = none
  object_value at (string s) dummy r none h = none
  object_value at (array ds) dummy r none h = none

  pub linked_value : (at : List ℕ) (d : Data) (dummy : A) (r : Read A) → P dummy → P r.value → P (on_linked_object at d dummy r).value
  linked_value at (object ms) dummy r none h = h
  linked_value at null dummy r none h = none
  linked_value at (boolean b) dummy r none h = none
  linked_value at (number n) dummy r none h = none
  linked_value at (string s) dummy r none h = none
  linked_value at (array ds) dummy r none h = none

module _ {A : Type 0} (P : A → Type 0) (reads : List ℕ → Data → Read A) (each : (at : List ℕ) (d : Data) → P (reads at d).value) where
  given_value : (default : A) → P default → (at : List ℕ) (o : Option Data) → P (given reads default at o).value
  given_value default none at None = none
  given_value default none at (Some d) = each at d

  pub property_value : (default : A) → P default → (at : List ℕ) (d : Data) (name : List ℕ) → P (property reads default at d name).value
  property_value default none at d name = given_value default none (below at name) (get name d)

  found_value : (dummy : A) → P dummy → (at name : List ℕ) (o : Option Data) → P (found reads dummy at name o).value
  found_value dummy none at name None = none
  found_value dummy none at name (Some d) = each (below at name) d

  pub needed_value : (dummy : A) → P dummy → (at : List ℕ) (d : Data) (name : List ℕ) → P (needed reads dummy at d name).value
  needed_value dummy none at d name = found_value dummy none at name (get name d)

pub optional_value : {A : Type 0} (P : A → Type 0) (reads : List ℕ → Data → Read A) → ((at : List ℕ) (d : Data) → P (reads at d).value)
    → (at : List ℕ) (d : Data) (name : List ℕ) → IfSome (optional reads at d name).value P
optional_value P reads each at d name = property_value (λ o. IfSome o P) (λ p v. under Some (reads p v)) each None tt at d name

-- each item of an array
pub each_value : {A : Type 0} (P : A → Type 0) (reads : ℕ → List ℕ → Data → Read A) → ((n : ℕ) (at : List ℕ) (d : Data) → P (reads n at d).value)
    → (at : List ℕ) (i : ℕ) (ds : Items) → All P (each_numbered reads at i ds).value
each_value P reads each at i no_items = All-nil P
each_value P reads each at i (item d ds) =
    All-cons P (reads (i + 1) (item_at at i) d).value (each_numbered reads at (i + 1) ds).value
    (each (i + 1) (item_at at i) d) (each_value P reads each at (i + 1) ds)

-- ---- properties that are ignored

ignored_quiet : (place : Place) (ignored : Bool) → Quiet (if ignored then warning_at place ∷ [] else [])
ignored_quiet place true = refl
ignored_quiet place false = refl

module _ (names : List (List ℕ)) (common : CommonProperty) (place : Place) (at : List ℕ) where
  others_in_quiet : (ms : Members) → Quiet (others_in names common place at ms).value
  others_in_quiet no_members = refl
  others_in_quiet (member name d ms) =
      let ignored = (other names common at name d).value in
      quiet_join (if ignored then warning_at place ∷ [] else []) (others_in names common place at ms).value
      (ignored_quiet place ignored) (others_in_quiet ms)

  others_quiet : (d : Data) → Quiet (others names common place at d).value
  others_quiet (object ms) = others_in_quiet ms
  others_quiet null = refl
  others_quiet (boolean b) = refl
  others_quiet (number n) = refl
  others_quiet (string s) = refl
  others_quiet (array ds) = refl

-- ---- annotations

unless_quiet : (place : Place) (common keyword : Bool) (inside : List Fault) → Quiet inside
    → Quiet (if common then inside else (if keyword then [] else warning_at place ∷ []))
unless_quiet place true keyword inside q = q
unless_quiet place false true inside q = refl
unless_quiet place false false inside q = refl

inside_quiet : (common : Bool) (inside : List Fault) → Quiet inside → Quiet (if common then inside else [])
inside_quiet true inside q = q
inside_quiet false inside q = refl

mutual
  warned_quiet : (place : Place) (d : Data) → Quiet (warned place d)
  warned_quiet place null = refl
  warned_quiet place (boolean b) = refl
  warned_quiet place (number n) = refl
  warned_quiet place (string s) = refl
  warned_quiet place (array ds) = all_warned_quiet place ds
  warned_quiet place (object ms) = members_warned_quiet place ms

  all_warned_quiet : (place : Place) (ds : Items) → Quiet (all_warned place ds)
  all_warned_quiet place no_items = refl
  all_warned_quiet place (item d ds) = quiet_join (warned place d) (all_warned place ds) (warned_quiet place d) (all_warned_quiet place ds)

  members_warned_quiet : (place : Place) (ms : Members) → Quiet (members_warned place ms)
  members_warned_quiet place no_members = refl
  members_warned_quiet place (member name d ms) =
      quiet_join (unless_ignored place name (warned place d)) (members_warned place ms)
      (unless_quiet place (has_colon name) (has_at name) (warned place d) (warned_quiet place d)) (members_warned_quiet place ms)

common_warned_quiet : (place : Place) (ms : Members) → Quiet (common_warned place ms)
common_warned_quiet place no_members = refl
common_warned_quiet place (member name d ms) =
    quiet_join (if has_colon name then warned place d else []) (common_warned place ms)
    (inside_quiet (has_colon name) (warned place d) (warned_quiet place d)) (common_warned_quiet place ms)

annotation_quiet : (place : Place) (d : Data) → Quiet (annotation_warnings place d)
annotation_quiet place (object ms) = common_warned_quiet place ms
annotation_quiet place null = refl
annotation_quiet place (boolean b) = refl
annotation_quiet place (number n) = refl
annotation_quiet place (string s) = refl
annotation_quiet place (array ds) = refl

given_warned_quiet : (place : Place) (o : Option Data) → Quiet (given_warned place o)
given_warned_quiet place None = refl
given_warned_quiet place (Some d) = warned_quiet place d

pub unlisted_quiet : (base : Parts) (language : Option (List ℕ)) (names : List (List ℕ)) (place : Place) (at : List ℕ) (d : Data)
    → Quiet (unlisted base language names place at d).value
unfolding unlisted
unlisted_quiet base language names place at d =
    quiet_join (others names Allowed place at d).value (annotation_warnings place d) (others_quiet names Allowed place at d) (annotation_quiet place d)

pub all_quiet : (names : List (List ℕ)) (place : Place) (at : List ℕ) (d : Data) → Quiet (all_warnings names place at d).value
unfolding all_warnings
all_quiet names place at d =
    let warnings = (others names Allowed place at d).value in
    quiet_join (warnings ++ annotation_warnings place d) (note_warnings place d)
    (quiet_join warnings (annotation_warnings place d) (others_quiet names Allowed place at d) (annotation_quiet place d))
    (given_warned_quiet place (get (codes "notes") d))

-- ---- datatypes

abbrev IsQuietFormat : FormatFound → Type 0
IsQuietFormat found = Quiet found.warnings

abbrev pub IsQuietDatatype : DatatypeFound → Type 0
IsQuietDatatype found = Quiet found.warnings

number_form_quiet : (profile : Profile) (place : Place) (at : List ℕ) (d : Data) → Quiet (number_form profile place at d).value.warnings
unfolding number_form
number_form_quiet profile place at d = others_quiet (format_names ++ []) Refused place at d

text_or_quiet : (profile : Profile) (at : List ℕ) (o : Option (List ℕ)) (r : Read FormatFound) → IsQuietFormat r.value
    → IsQuietFormat (text_or profile at o r).value
text_or_quiet Core at o r h = h
text_or_quiet W3c at None r h = h
text_or_quiet W3c at (Some s) r h = pattern_quiet at (pattern_in no_characters s)
  where
    pattern_quiet : (at : List ℕ) (p : Result NumberPattern PatternFault) → IsQuietFormat (pattern_read at p).value
    pattern_quiet at (Ok p) = refl
    pattern_quiet at (Err fault) = refl

number_format_quiet : (profile : Profile) (place : Place) (at : List ℕ) (d : Data) → IsQuietFormat (number_format profile place at d).value
number_format_quiet profile place at d =
    text_or_quiet profile at (as_str d) _
    (linked_value IsQuietFormat at d no_format (under number_found (number_form profile place at d)) refl (number_form_quiet profile place at d))

found_quiet : (o : Option (List ℕ)) → IsQuietFormat (expression_found o)
found_quiet None = refl
found_quiet (Some e) = refl

expression_quiet : (profile : Profile) (at : List ℕ) (d : Data) → IsQuietFormat (expression_format profile at d).value
expression_quiet profile at d = found_quiet (text_expression profile at d).value

format_quiet : (profile : Profile) (simple : Simple) (place : Place) (at : List ℕ) (d : Data) → IsQuietFormat (format profile simple place at d).value
unfolding format
format_quiet profile simples.Text place at d = expression_quiet profile at d
format_quiet profile simples.Uri place at d = expression_quiet profile at d
format_quiet profile (simples.Other types.Any) place at d = expression_quiet profile at d
format_quiet profile (simples.Other types.Normalized) place at d = expression_quiet profile at d
format_quiet profile (simples.Other types.Token) place at d = expression_quiet profile at d
format_quiet profile (simples.Other types.Language) place at d = expression_quiet profile at d
format_quiet profile (simples.Other types.Name) place at d = expression_quiet profile at d
format_quiet profile (simples.Other types.NameToken) place at d = expression_quiet profile at d
format_quiet profile (simples.Other types.QualifiedName) place at d = expression_quiet profile at d
format_quiet profile (simples.Other types.Xml) place at d = expression_quiet profile at d
format_quiet profile (simples.Other types.Html) place at d = expression_quiet profile at d
format_quiet profile (simples.Other types.Json) place at d = expression_quiet profile at d
format_quiet profile (simples.Other types.Time) place at d = refl
format_quiet profile (simples.Other types.Date) place at d = refl
format_quiet profile (simples.Other (types.DateTime zone)) place at d = refl
format_quiet profile (simples.Other (types.Part p)) place at d = refl
format_quiet profile (simples.Other (types.Binary b)) place at d = expression_quiet profile at d
format_quiet profile (simples.Other (types.Duration k)) place at d = expression_quiet profile at d
format_quiet profile (simples.Floating t) place at d = number_format_quiet profile place at d
format_quiet profile simples.Truth place at d = refl
format_quiet profile simples.Whole place at d = number_format_quiet profile place at d
format_quiet profile (simples.Derived w) place at d = number_format_quiet profile place at d
format_quiet profile simples.Decimal place at d = number_format_quiet profile place at d
format_quiet profile simples.Day place at d = refl
format_quiet profile simples.Moment place at d = refl

of_type_quiet : (profile : Profile) (id : Option (List ℕ)) (place : Place) (at : List ℕ) (d : Data) (simple : Simple)
    → IsQuietDatatype (of_type profile id place at d simple).value
unfolding of_type
of_type_quiet profile id place at d simple =
    property_value IsQuietFormat (format profile simple place) (format_quiet profile simple place) no_format refl at d (codes "format")

whichever_value : {A B : Type 0} (P : B → Type 0) (values : List A) (dummy : B) (faults : List MetaFault) (a : A) (next : A → Read B)
    → P dummy → ((x : A) → P (next x).value) → P (by_faults values dummy faults a next).value
whichever_value P values dummy [] a next none h = h a
whichever_value P values dummy (f ∷ fs) a next none h = none

based_quiet : (profile : Profile) (id : Option (List ℕ)) (place : Place) (at : List ℕ) (d : Data) → IsQuietDatatype (based profile id place at d).value
based_quiet profile id place at d =
    let simple = property (base profile) simples.Text at d (codes "base") in
    whichever_value IsQuietDatatype (simples_of profile) (named simples.Text) simple.faults simple.value (of_type profile id place at d) refl (of_type_quiet profile id place at d)

form_quiet : (profile : Profile) (against : Parts) (place : Place) (at : List ℕ) (d : Data) → IsQuietDatatype (form profile against place at d).value
unfolding form
form_quiet profile against place at d =
    let iri = (optional (id against) at d (codes "@id")).value in
    quiet_join (based profile iri place at d).value.warnings (unlisted against None (datatype_names ++ []) place at d).value
    (based_quiet profile iri place at d) (unlisted_quiet against None (datatype_names ++ []) place at d)

pub datatype_quiet : (profile : Profile) (against : Parts) (place : Place) (at : List ℕ) (d : Data)
    → IsQuietDatatype (datatype profile against place at d).value
unfolding datatype
datatype_quiet profile against place at (object ms) = form_quiet profile against place at (object ms)
datatype_quiet profile against place at null = refl
datatype_quiet profile against place at (boolean b) = refl
datatype_quiet profile against place at (number n) = refl
datatype_quiet profile against place at (string s) = refl
datatype_quiet profile against place at (array ds) = refl

-- ---- keys

abbrev ReferenceFound : Type 0
ReferenceFound = TypeOf (no_reference [])

abbrev IsQuietReference : ReferenceFound → Type 0
IsQuietReference found = Quiet found.warnings

abbrev IsQuietKey : ForeignKeyFound → Type 0
IsQuietKey found = Quiet found.warnings

reference_of_quiet : (profile : Profile) (base : Parts) (place : Place) (at : List ℕ) (d : Data) → IsQuietReference (reference_of profile base place at d).value
unfolding reference_of
reference_of_quiet profile base place at d = others_quiet (reference_names ++ []) Refused place at d

reference_quiet : (profile : Profile) (base : Parts) (place : Place) (at : List ℕ) (d : Data) → IsQuietReference (reference profile base place at d).value
reference_quiet profile base place at d =
    object_value IsQuietReference at d (no_reference at) (reference_of profile base place at d) refl (reference_of_quiet profile base place at d)

foreign_key_of_quiet : (profile : Profile) (base : Parts) (place : Place) (at : List ℕ) (d : Data) → IsQuietKey (foreign_key_of profile base place at d).value
unfolding foreign_key_of
foreign_key_of_quiet profile base place at d =
    quiet_join (others (foreign_key_names ++ []) Refused place at d).value
    (needed (reference profile base place) (no_reference at) at d (codes "reference")).value.warnings
    (others_quiet (foreign_key_names ++ []) Refused place at d)
    (needed_value IsQuietReference (reference profile base place) (reference_quiet profile base place) (no_reference at) refl at d (codes "reference"))

foreign_key_quiet : (profile : Profile) (base : Parts) (place : Place) (at : List ℕ) (d : Data) → IsQuietKey (foreign_key profile base place at d).value
foreign_key_quiet profile base place at d =
    object_value IsQuietKey at d (no_foreign_key at) (foreign_key_of profile base place at d) refl (foreign_key_of_quiet profile base place at d)

foreign_keys_quiet : (profile : Profile) (base : Parts) (place : Place) (at : List ℕ) (d : Data) → All IsQuietKey (foreign_keys profile base place at d).value
foreign_keys_quiet profile base place at (array ds) =
    each_value IsQuietKey (λ n. foreign_key profile base place) (λ n. foreign_key_quiet profile base place) at 0 ds
foreign_keys_quiet profile base place at null = All-nil IsQuietKey
foreign_keys_quiet profile base place at (boolean b) = All-nil IsQuietKey
foreign_keys_quiet profile base place at (number n) = All-nil IsQuietKey
foreign_keys_quiet profile base place at (string s) = All-nil IsQuietKey
foreign_keys_quiet profile base place at (object ms) = All-nil IsQuietKey

pub keys_quiet : (profile : Profile) (base : Parts) (place : Place) (id : Option (List ℕ)) (at : List ℕ) (d : Data)
    → Quiet (described.all_warnings (keys profile base place id at d).value.foreign)
unfolding keys
keys_quiet profile base place id at d =
    quiet_flat (λ (k : ForeignKeyFound). k.warnings) (property (foreign_keys profile base place) [] at d (codes "foreignKeys")).value
    (property_value (All IsQuietKey) (foreign_keys profile base place) (foreign_keys_quiet profile base place) [] (All-nil IsQuietKey) at d
    (codes "foreignKeys"))
