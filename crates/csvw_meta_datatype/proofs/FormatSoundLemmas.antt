-- Each format that is read is one of its type, even if there is a fault in it.
use Rattle.std.proofs.Common.{◌≡◌, ◌&&◌, not, ℕ, List, [], ◌∷◌, Bool, true, false, Option, Some, None, IfSome, refl, bytes_eq, codes, chars, ◌==◌, Result, Ok, Err}
use Rattle.std.proofs.Common.{if◌then◌else◌, arith}
use Rattle.std.proofs.lemmas.Bool.Decides.{nat_tests}
use Rattle.std.proofs.lemmas.Slice.Eq.{bytes_eq-Decides}
use Rattle.serde_json.specs.Data.{Data, null, boolean, number, string, array, object}
use Rattle.serde_json.specs.Find.{get, as_str}
use Rattle.csvw_fault.specs.declared.fault.Place.{Place}
use Rattle.csvw_datatype_core.specs.declared.number_pattern.NumberPattern.{NumberPattern}
use Rattle.csvw_datatype_core.specs.declared.number_pattern.PatternFault.{PatternFault}
use Rattle.csvw_datatype_core.specs.Numbers.{IsFree, IsLawful}
use Rattle.csvw_datatype.specs.Bars.{has_bar, IsTruthText}
use Rattle.csvw_datatype.specs.Formats.{AreTruthTexts, IsFormatOf, format_rules}
use Rattle.csvw_datatype.specs.Strings.{takes_expression}
use Rattle.csvw_datatype.specs.declared.simple.Simple.{Simple}
use Rattle.csvw_datatype.specs.declared.simple.Simple.TheVariants as simples
use Rattle.csvw_datatype.specs.declared.simple.TextType.TheVariants as types
use Rattle.csvw_datatype.specs.declared.simple.Floating.{Floating}
use Rattle.csvw_datatype.specs.declared.format.NumberFormat.{NumberFormat}
use Rattle.csvw_datatype.specs.declared.format.Format.{Format}
use Rattle.csvw_datatype.specs.declared.format.Format.TheVariants as formats
use Rattle.csvw_meta_core.specs.declared.fault.MetaCode.TheVariants.{BadDatatype}
use Rattle.csvw_meta_core.specs.Pointer.{below}
use Rattle.csvw_meta_core.specs.declared.profile.Profile.{Profile}
use Rattle.csvw_meta_core.specs.declared.profile.Profile.TheVariants.{Core, W3c}
use Rattle.csvw_meta_core.specs.Read.{Read, fine, faulty, given, under, on_kind, on_linked_object}
use Rattle.csvw_meta_datatype.specs.declared.format.FormatFound.{FormatFound}
use Rattle.csvw_meta_datatype.specs.Formats.{no_format, number_found, number_format, format, pattern_read, text_or, expression_found, expression_format}
use Rattle.csvw_meta_datatype.specs.Expressions.{text_expression}
use Rattle.csvw_meta_datatype.specs.Numbers.{is_free, character_found, character, sole, number_parts, no_characters, is_character, clashes}
use Rattle.csvw_meta_datatype.specs.Numbers.{lawful_number, number_form, pattern_in, patterned, default_group, with_group, with_pattern}
use Rattle.csvw_meta_datatype.specs.Truths.{is_truth_text, are_truth_texts, truth_texts, truth_format_of, no_truths, truths_found, truth_format}
use Rattle.csvw_meta_datatype.specs.Truths.{before_bar, behind_bar}

-- ---- truths

and_both : (a b : Bool) → (a && b) ≡ true → (a ≡ true) × (b ≡ true)
and_both true b h = (refl, h)
and_both false b h = cc

not_true : (b : Bool) → not b ≡ true → b ≡ false
not_true true h = cc
not_true false h = refl

true_false : (b : Bool) → b ≡ true → b ≡ false → ⊥
true_false true h k = cc
true_false false h k = cc

truth_text_is : (t : List ℕ) → is_truth_text t ≡ true → IsTruthText t
truth_text_is [] h = cc
truth_text_is (b ∷ bs) h = ((λ e. cc), not_true (has_bar (b ∷ bs)) h)

pub are_lawful : (t f : List ℕ) → are_truth_texts t f ≡ true → AreTruthTexts (record { if_true = t; if_false = f })
are_lawful t f h =
    let first = and_both (is_truth_text t) (is_truth_text f && not (bytes_eq t f)) h in
    let second = and_both (is_truth_text f) (not (bytes_eq t f)) first.1 in
    (truth_text_is t first.0, truth_text_is f second.0, λ e. true_false (bytes_eq t f) ((bytes_eq-Decides t f).1 e) (not_true (bytes_eq t f) second.1))

default_truths : AreTruthTexts no_truths
default_truths = are_lawful (codes "true") (codes "false") refl

chosen_truths : (at t f : List ℕ) (b : Bool) → are_truth_texts t f ≡ b
    → AreTruthTexts (truths_found at (if b then Some (record { if_true = t; if_false = f }) else None)).value
chosen_truths at t f true h = are_lawful t f h
chosen_truths at t f false h = default_truths

truths_of : (at t : List ℕ) (o : Option (List ℕ)) → AreTruthTexts (truths_found at (truth_texts t o)).value
truths_of at t None = default_truths
truths_of at t (Some f) = chosen_truths at t f (are_truth_texts t f) refl

truths_on : (at : List ℕ) (d : Data) (o : Option (List ℕ))
    → AreTruthTexts (on_kind at d no_truths o (λ s. truths_found at (truth_format_of s))).value
truths_on at d None = default_truths
truths_on at d (Some s) = truths_of at (before_bar s) (behind_bar s)

truth_sound : (at : List ℕ) (d : Data) → AreTruthTexts (truth_format at d).value
truth_sound at d = truths_on at d (as_str d)

-- ---- numbers

free_of : (c : ℕ) → is_free c ≡ true → IsFree c
free_of c h = record {
  no_digit = grind (arith, nat_tests);
  no_plus = grind (arith, nat_tests);
  no_minus = grind (arith, nat_tests);
  no_percent = grind (arith, nat_tests);
  no_per_mille = grind (arith, nat_tests);
  no_tab = grind (arith, nat_tests);
  no_line_feed = grind (arith, nat_tests);
  no_carriage_return = grind (arith, nat_tests);
}

point_free : IsFree 46
point_free = free_of 46 refl

chosen_free : (at : List ℕ) (c : ℕ) (b : Bool) → is_free c ≡ b → IsFree (if b then fine c else faulty BadDatatype at 46).value
chosen_free at c true h = free_of c h
chosen_free at c false h = point_free

found_free : (at : List ℕ) (o : Option ℕ) → IsFree (character_found at o).value
found_free at None = point_free
found_free at (Some c) = chosen_free at c (is_free c) refl

on_free : (at : List ℕ) (d : Data) (o : Option (List ℕ)) → IsFree (on_kind at d 46 o (λ s. character_found at (sole (chars s)))).value
on_free at d None = point_free
on_free at d (Some s) = found_free at (sole (chars s))

character_free : (at : List ℕ) (d : Data) → IsFree (character at d).value
character_free at d = on_free at d (as_str d)

given_free : (at : List ℕ) (o : Option Data) → IsFree (given character 46 at o).value
given_free at None = point_free
given_free at (Some d) = character_free at d

optional_free : (at : List ℕ) (o : Option Data) → IfSome (given (λ p v. under Some (character p v)) None at o).value IsFree
optional_free at None = tt
optional_free at (Some d) = character_free at d

abbrev AreFree : NumberFormat → Type 0
AreFree f = IsFree f.decimal_char × IfSome f.group_char IsFree

parts_free : (profile : Profile) (at : List ℕ) (d : Data) → AreFree (number_parts profile at d).value.format
unfolding number_parts
parts_free profile at d =
    (given_free (below at (codes "decimalChar")) (get (codes "decimalChar") d), optional_free (below at (codes "groupChar")) (get (codes "groupChar") d))

differ_of : (a : ℕ) (g : Option ℕ) → is_character a g ≡ false → (c : ℕ) → Some a ≡ Some c → g ≡ Some c → ⊥
differ_of a None h c p q = cc
differ_of a (Some b) h c p q =
    let e : a ≡ c = cc in
    let f : b ≡ c = cc in
    grind (arith, nat_tests)

lawful_of : (f : NumberFormat) → AreFree f → clashes f ≡ false → IsLawful (format_rules f)
lawful_of f free h = record { decimal_char = free.0; group_char = free.1; differ = differ_of f.decimal_char f.group_char h }

comma_free : IsFree 44
comma_free = record {
  no_digit = λ h. omega arith;
  no_plus = λ e. omega arith;
  no_minus = λ e. omega arith;
  no_percent = λ e. omega arith;
  no_per_mille = λ e. omega arith;
  no_tab = λ e. omega arith;
  no_line_feed = λ e. omega arith;
  no_carriage_return = λ e. omega arith;
}

-- the default group character of a pattern is free and differs from the decimal character
group_free : (c : ℕ) (b : Bool) → (c == 44) ≡ b → IfSome (if b then None else Some 44) IsFree × (is_character c (if b then None else Some 44) ≡ false)
group_free c true e = (tt, refl)
group_free c false e = (comma_free, grind (arith, nat_tests))

group_both : (c : ℕ) (g : Option ℕ) → IsFree c → IfSome g IsFree → is_character c g ≡ false
    → (IsFree c × IfSome (default_group c g) IsFree) × (is_character c (default_group c g) ≡ false)
group_both c None decimal group h = let g = group_free c (c == 44) refl in ((decimal, g.0), g.1)
group_both c (Some g) decimal group h = ((decimal, group), h)

group_lawful : (f : NumberFormat) → AreFree f → clashes f ≡ false → AreFree (with_group f) × (clashes (with_group f) ≡ false)
group_lawful f free h = group_both f.decimal_char f.group_char free.0 free.1 h

patterned_lawful : (f : NumberFormat) (r : Result NumberPattern PatternFault) → AreFree f → clashes f ≡ false → IsLawful (format_rules (patterned f r))
patterned_lawful f (Ok p) free h =
    let g = group_lawful f free h in
    let l = lawful_of (with_group f) g.0 g.1 in record { decimal_char = l.decimal_char; group_char = l.group_char; differ = l.differ }
patterned_lawful f (Err fault) free h = lawful_of f free h

pattern_lawful : (f : NumberFormat) (o : Option (List ℕ)) → AreFree f → clashes f ≡ false → IsLawful (format_rules (with_pattern f o))
pattern_lawful f None free h = lawful_of f free h
pattern_lawful f (Some s) free h = patterned_lawful f (pattern_in f s) free h

chosen_lawful : (f : NumberFormat) (o : Option (List ℕ)) → AreFree f → (b : Bool) → clashes f ≡ b
    → IsLawful (format_rules (with_pattern (if b then no_characters else f) o))
chosen_lawful f o free true h = pattern_lawful no_characters o (point_free, tt) refl
chosen_lawful f o free false h = pattern_lawful f o free h

lawful_sound : (profile : Profile) (at : List ℕ) (d : Data) → IsLawful (format_rules (lawful_number profile at d).value)
lawful_sound profile at d =
    let parts = (number_parts profile at d).value in
    chosen_lawful parts.format parts.pattern (parts_free profile at d) (clashes parts.format) refl

-- the format of a number, where there is one, has lawful characters
abbrev IsOfNumbers : Option Format → Type 0
IsOfNumbers o = IsFormatOf simples.Decimal o

form_sound : (profile : Profile) (place : Place) (at : List ℕ) (d : Data) → IsOfNumbers (number_found (number_form profile place at d).value).format
unfolding number_form
form_sound profile place at d = lawful_sound profile at d

linked_sound : (profile : Profile) (place : Place) (at : List ℕ) (d : Data)
    → IsOfNumbers (on_linked_object at d no_format (under number_found (number_form profile place at d))).value.format
linked_sound profile place at (object ms) = form_sound profile place at (object ms)
linked_sound profile place at null = tt
linked_sound profile place at (boolean b) = tt
linked_sound profile place at (number n) = tt
linked_sound profile place at (string s) = tt
linked_sound profile place at (array ds) = tt

text_sound : (at : List ℕ) (r : Result NumberPattern PatternFault) → IsOfNumbers (pattern_read at r).value.format
text_sound at (Ok p) = patterned_lawful no_characters (Ok p) (point_free, tt) refl
text_sound at (Err fault) = tt

either_sound : (profile : Profile) (at : List ℕ) (o : Option (List ℕ)) (r : Read FormatFound) → IsOfNumbers r.value.format
    → IsOfNumbers (text_or profile at o r).value.format
either_sound Core at o r h = h
either_sound W3c at None r h = h
either_sound W3c at (Some s) r h = text_sound at (pattern_in no_characters s)

number_sound : (profile : Profile) (place : Place) (at : List ℕ) (d : Data) → IsOfNumbers (number_format profile place at d).value.format
number_sound profile place at d = either_sound profile at (as_str d) _ (linked_sound profile place at d)

as_whole : (o : Option Format) → IsOfNumbers o → IsFormatOf simples.Whole o
as_whole None h = tt
as_whole (Some (formats.Number f)) h = h
as_whole (Some (formats.Truth f)) h = absurd h
as_whole (Some (formats.Day f)) h = absurd h
as_whole (Some (formats.Moment f)) h = absurd h
as_whole (Some (formats.Time f)) h = absurd h
as_whole (Some (formats.ZonedDay f)) h = absurd h
as_whole (Some (formats.Stamp f)) h = absurd h
as_whole (Some (formats.Expression e)) h = h

as_floating : (t : Floating) (o : Option Format) → IsOfNumbers o → IsFormatOf (simples.Floating t) o
as_floating t None h = tt
as_floating t (Some (formats.Number f)) h = h
as_floating t (Some (formats.Truth f)) h = absurd h
as_floating t (Some (formats.Day f)) h = absurd h
as_floating t (Some (formats.Moment f)) h = absurd h
as_floating t (Some (formats.Time f)) h = absurd h
as_floating t (Some (formats.ZonedDay f)) h = absurd h
as_floating t (Some (formats.Stamp f)) h = absurd h
as_floating t (Some (formats.Expression e)) h = h

-- ---- expressions

found_fits : (s : Simple) → takes_expression s ≡ true → (o : Option (List ℕ)) → IsFormatOf s (expression_found o).format
found_fits s h None = tt
found_fits s h (Some e) = h

expression_sound : (s : Simple) → takes_expression s ≡ true → (profile : Profile) (at : List ℕ) (d : Data)
    → IsFormatOf s (expression_format profile at d).value.format
expression_sound s h profile at d = found_fits s h (text_expression profile at d).value

-- ---- all types

pub format_sound : (profile : Profile) (simple : Simple) (place : Place) (at : List ℕ) (d : Data) → IsFormatOf simple (format profile simple place at d).value.format
unfolding format
format_sound profile simples.Text place at d = expression_sound simples.Text refl profile at d
format_sound profile simples.Uri place at d = expression_sound simples.Uri refl profile at d
format_sound profile (simples.Other types.Any) place at d = expression_sound (simples.Other types.Any) refl profile at d
format_sound profile (simples.Other types.Normalized) place at d = expression_sound (simples.Other types.Normalized) refl profile at d
format_sound profile (simples.Other types.Token) place at d = expression_sound (simples.Other types.Token) refl profile at d
format_sound profile (simples.Other types.Language) place at d = expression_sound (simples.Other types.Language) refl profile at d
format_sound profile (simples.Other types.Name) place at d = expression_sound (simples.Other types.Name) refl profile at d
format_sound profile (simples.Other types.NameToken) place at d = expression_sound (simples.Other types.NameToken) refl profile at d
format_sound profile (simples.Other types.QualifiedName) place at d = expression_sound (simples.Other types.QualifiedName) refl profile at d
format_sound profile (simples.Other types.Xml) place at d = expression_sound (simples.Other types.Xml) refl profile at d
format_sound profile (simples.Other types.Html) place at d = expression_sound (simples.Other types.Html) refl profile at d
format_sound profile (simples.Other types.Json) place at d = expression_sound (simples.Other types.Json) refl profile at d
format_sound profile (simples.Other types.Time) place at d = tt
format_sound profile (simples.Other types.Date) place at d = tt
format_sound profile (simples.Other (types.DateTime z)) place at d = tt
format_sound profile (simples.Other (types.Part p)) place at d = tt
format_sound profile (simples.Other (types.Binary b)) place at d = expression_sound (simples.Other (types.Binary b)) refl profile at d
format_sound profile (simples.Other (types.Duration k)) place at d = expression_sound (simples.Other (types.Duration k)) refl profile at d
format_sound profile (simples.Floating t) place at d = as_floating t (number_format profile place at d).value.format (number_sound profile place at d)
format_sound profile simples.Truth place at d = truth_sound at d
format_sound profile simples.Whole place at d = as_whole (number_format profile place at d).value.format (number_sound profile place at d)
format_sound profile (simples.Derived w) place at d = as_whole (number_format profile place at d).value.format (number_sound profile place at d)
format_sound profile simples.Decimal place at d = number_sound profile place at d
format_sound profile simples.Day place at d = tt
format_sound profile simples.Moment place at d = tt
