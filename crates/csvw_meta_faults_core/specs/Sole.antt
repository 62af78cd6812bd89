-- Kinds of value that have at most one fault: `AtMostOne` (Metadata Vocabulary for Tabular Data, section 5.1).
use Rattle.std.specs.Prelude.{ℕ, ◌==◌, List, [], ◌∷◌, Bool, true, false, Option, Some, None, Result, Ok, Err, if◌then◌else◌, option_and_then}
use Rattle.std.specs.Prelude.{bytes_eq, nat_le, length, codes, nat_eq}
use Rattle.std.specs.List.{starts_with}
use Rattle.std.specs.Str.{chars}
use Rattle.url.specs.Parts.{Parts}
use Rattle.csvw_text.specs.Language.{is_language_tag}
use Rattle.csvw_iri.specs.Link.{base_of, resolved, too_long, bad}
use Rattle.csvw_iri.specs.Link as iri
use Rattle.serde_json.specs.Data.{Data}
use Rattle.serde_json.specs.Find.{as_bool, as_str, as_number, as_u64}
use Rattle.csvw_meta_core.specs.declared.fault.MetaCode.{MetaCode}
use Rattle.csvw_meta_core.specs.declared.fault.MetaCode.TheVariants.{BadProperty, TooMany, BadId}
use Rattle.csvw_meta_core.specs.declared.fault.MetaFault.{MetaFault}
use Rattle.csvw_meta_core.specs.Kinds.{truth, text, some_text, fixed, whole, any_whole, character, language, one_of, sole_of}
use Rattle.csvw_meta_core.specs.Links.{told, no_url, url, id}
use Rattle.csvw_meta_core.specs.Read.{Read, fine, faulty, on_kind_as, not_yet}

-- no fault, or one
abbrev pub AtMostOne : List MetaFault → Type 0
AtMostOne [] = Unit {0}
AtMostOne (f ∷ []) = Unit {0}
AtMostOne (f ∷ g ∷ fs) = ⊥

pub of_kind : {A B : Type 0} (code : MetaCode) (at : List ℕ) (d : Data) (dummy : B) (o : Option A) (reads : A → Read B)
    → ((a : A) → AtMostOne (reads a).faults) → AtMostOne (on_kind_as code at d dummy o reads).faults
of_kind code at d dummy None reads h = tt
of_kind code at d dummy (Some a) reads h = h a

pub of_test : {A : Type 0} (b : Bool) (r s : Read A) → AtMostOne r.faults → AtMostOne s.faults → AtMostOne (if b then r else s).faults
of_test true r s h k = h
of_test false r s h k = k

pub of_link : {A : Type 0} (at : List ℕ) (dummy : A) (result : Result A iri.Refusal) → AtMostOne (told at dummy result).faults
of_link at dummy (Ok a) = tt
of_link at dummy (Err too_long) = tt
of_link at dummy (Err bad) = tt

-- ---- the kinds

pub truth_has_one : (at : List ℕ) (d : Data) → AtMostOne (truth at d).faults
truth_has_one at d = of_kind BadProperty at d false (as_bool d) fine (λ _. tt)

pub text_has_one : (at : List ℕ) (d : Data) → AtMostOne (text at d).faults
text_has_one at d = of_kind BadProperty at d [] (as_str d) fine (λ _. tt)

pub some_text_has_one : (at : List ℕ) (d : Data) → AtMostOne (some_text at d).faults
some_text_has_one at d =
    of_kind BadProperty at d [] (as_str d) (λ s. if length s == 0 then faulty BadProperty at [] else fine s)
    (λ s. of_test (length s == 0) (faulty BadProperty at []) (fine s) tt tt)

pub fixed_has_one : (word at : List ℕ) (d : Data) → AtMostOne (fixed word at d).faults
fixed_has_one word at d =
    of_kind BadProperty at d tt (as_str d) (λ s. if bytes_eq s word then fine tt else faulty BadProperty at tt)
    (λ s. of_test (bytes_eq s word) (fine tt) (faulty BadProperty at tt) tt tt)

pub whole_has_one : (most : ℕ) (at : List ℕ) (d : Data) → AtMostOne (whole most at d).faults
whole_has_one most at d =
    of_kind BadProperty at d 0 (option_and_then as_u64 (as_number d)) (λ n. if nat_le n most then fine n else faulty TooMany at 0)
    (λ n. of_test (nat_le n most) (fine n) (faulty TooMany at 0) tt tt)

pub any_whole_has_one : (at : List ℕ) (d : Data) → AtMostOne (any_whole at d).faults
any_whole_has_one at d = of_kind BadProperty at d 0 (option_and_then as_u64 (as_number d)) fine (λ _. tt)

of_chars : (several : MetaCode) (at cs : List ℕ) → AtMostOne (one_of several at (sole_of cs)).faults
of_chars several at [] = tt
of_chars several at (c ∷ []) = tt
of_chars several at (c ∷ d ∷ cs) = tt

pub character_has_one : (several : MetaCode) (at : List ℕ) (d : Data) → AtMostOne (character several at d).faults
character_has_one several at d =
    of_kind BadProperty at d 0 (as_str d) (λ s. one_of several at (sole_of (chars s))) (λ s. of_chars several at (chars s))

pub language_has_one : (code : MetaCode) (at : List ℕ) (d : Data) → AtMostOne (language code at d).faults
language_has_one code at d =
    of_kind code at d [] (as_str d) (λ s. if is_language_tag s then fine s else faulty code at [])
    (λ s. of_test (is_language_tag s) (fine s) (faulty code at []) tt tt)

pub not_yet_has_one : (at : List ℕ) (d : Data) → AtMostOne (not_yet at d).faults
not_yet_has_one at d = tt

-- ---- links

pub url_has_one : (base : Parts) (at : List ℕ) (d : Data) → AtMostOne (url base at d).faults
url_has_one base at d =
    of_kind BadProperty at d no_url (as_str d) (λ s. told at no_url (base_of (Some base) s)) (λ s. of_link at no_url (base_of (Some base) s))

pub id_has_one : (base : Parts) (at : List ℕ) (d : Data) → AtMostOne (id base at d).faults
id_has_one base at d =
    of_kind BadProperty at d [] (as_str d)
    (λ s. if starts_with nat_eq s (codes "_:") then faulty BadId at [] else told at [] (resolved base s))
    (λ s. of_test (starts_with nat_eq s (codes "_:")) (faulty BadId at []) (told at [] (resolved base s)) tt (of_link at [] (resolved base s)))
