-- A value has one lexical form.
use Rattle.std.proofs.Common.{◌≡◌, ℕ, ◌<◌, ◌^◌, List, refl, sym, ap, ◌∙◌, ℤ, unsigned_abs}
use Rattle.std.specs.Str.{chars, IsUtf8}
use Rattle.std.specs.Prelude.{encode_utf8_all}
use Rattle.std.proofs.lemmas.Str.{encodes-chars}
use Rattle.csvw_datatype_core.specs.declared.date.DateFormat.TheVariants.{YearFirst}
use Rattle.csvw_datatype_core.specs.declared.moment.MomentFormat.TheVariants.{Seconds}
use Rattle.csvw_datatype_core.specs.Dates.{ReadsDate}
use Rattle.csvw_datatype_core.specs.Moments.{ReadsMoment}
use Rattle.csvw_datatype_core.specs.LexicalDates.{IsDayNumber, IsMomentNumber}
use Rattle.csvw_datatype_core.specs.Forms.{number_form, date_form, moment_form}
use Rattle.csvw_datatype_core.specs.LexicalNumbers.{IsLexicalNumber}
use Rattle.csvw_datatype.specs.declared.value.Value.{Value}
use Rattle.csvw_datatype.specs.declared.value.Value.TheVariants as values
use Rattle.csvw_datatype.specs.Lexical.{IsWritable, IsLexical, lexical_of}

-- the laws of csvw_datatype_core: a number, a day and a moment have one text each

abbrev OneNumberText : Type 0
OneNumberText = (cs ds : List ℕ) (z : ℤ) → IsLexicalNumber cs z → IsLexicalNumber ds z → cs ≡ ds

abbrev OneDateText : Type 0
OneDateText = (s t : List ℕ) (day : ℤ) → ReadsDate YearFirst s day → ReadsDate YearFirst t day → s ≡ t

abbrev OneMomentText : Type 0
OneMomentText = (s t : List ℕ) (moment : ℤ) → ReadsMoment Seconds s moment → ReadsMoment Seconds t moment → s ≡ t

same_bytes : (s t : List ℕ) → IsUtf8 s → IsUtf8 t → chars s ≡ chars t → s ≡ t
same_bytes s t p q e = sym (encodes-chars s p) ∙ ap encode_utf8_all e ∙ encodes-chars t q

pub one_form : OneNumberText → OneDateText → OneMomentText → (v : Value) (s t : List ℕ) → IsUtf8 s → IsUtf8 t → IsLexical v s → IsLexical v t → s ≡ t
one_form number date moment (values.Text text) s t p q h k = h ∙ sym k
one_form number date moment (values.Truth b) s t p q h k = h ∙ sym k
one_form number date moment (values.Number z) s t p q h k = same_bytes s t p q (number (chars s) (chars t) z h k)
one_form number date moment (values.Day day) s t p q h k = date s t day h k
one_form number date moment (values.Moment m) s t p q h k = moment s t m h k

-- and so are their forms the texts that functions give

abbrev NumberForms : Type 0
NumberForms = (text : List ℕ) (z : ℤ) → unsigned_abs z < 10 ^ 38 → IsLexicalNumber text z → text ≡ number_form z

abbrev NumberInBytes : Type 0
NumberInBytes = (z : ℤ) → unsigned_abs z < 10 ^ 38 → encode_utf8_all (number_form z) ≡ number_form z

abbrev DayForms : Type 0
DayForms = (text : List ℕ) (day : ℤ) → ReadsDate YearFirst text day → text ≡ date_form day

abbrev MomentForms : Type 0
MomentForms = (text : List ℕ) (moment : ℤ) → ReadsMoment Seconds text moment → text ≡ moment_form moment

pub forms : NumberForms → NumberInBytes → DayForms → MomentForms → (v : Value) (text : List ℕ) → IsUtf8 text → IsWritable v
    → IsLexical v text → text ≡ lexical_of v
forms number bytes day moment (values.Text t) text p w h = h
forms number bytes day moment (values.Truth b) text p w h = h
forms number bytes day moment (values.Number z) text p w h = sym (encodes-chars text p) ∙ ap encode_utf8_all (number (chars text) z w h) ∙ bytes z w
forms number bytes day moment (values.Day d) text p w h = day text d h
forms number bytes day moment (values.Moment m) text p w h = moment text m h

abbrev NumbersHaveForms : Type 0
NumbersHaveForms = (z : ℤ) → unsigned_abs z < 10 ^ 38 → IsLexicalNumber (chars (number_form z)) z

abbrev DaysHaveForms : Type 0
DaysHaveForms = (day : ℤ) → IsDayNumber day → ReadsDate YearFirst (date_form day) day

abbrev MomentsHaveForms : Type 0
MomentsHaveForms = (moment : ℤ) → IsMomentNumber moment → ReadsMoment Seconds (moment_form moment) moment

pub have_forms : NumbersHaveForms → DaysHaveForms → MomentsHaveForms → (v : Value) → IsWritable v → IsLexical v (lexical_of v)
have_forms number day moment (values.Text t) w = refl
have_forms number day moment (values.Truth b) w = refl
have_forms number day moment (values.Number z) w = number z w
have_forms number day moment (values.Day d) w = day d w
have_forms number day moment (values.Moment m) w = moment m w
