-- A text has one value or one code.
use Rattle.std.proofs.Common.{◌≡◌, ℕ, zero, suc, ◌*◌, ◌%◌, ◌^◌, ◌<◌, ◌⊎◌, inl, inr, Bool, true, false, Option, Some, None, List, [], ◌∷◌, ◌++◌, length}
use Rattle.std.proofs.Common.{refl, sym, ap, subst, ◌∙◌, arith, ℤ, unsigned_abs, unwrap_or, is_some, Result, Ok, Err, MatchResult, IfOk, ◌&&◌, if◌then◌else◌}
use Rattle.std.specs.Prelude.{codes}
use Rattle.std.specs.Str.{chars}
use Rattle.std.specs.Str.Parse.{digits_value}
use Rattle.std.proofs.Math.Nat.{mul-mod_left}
use Rattle.csvw_fault.specs.declared.fault.Code.{Code}
use Rattle.csvw_fault.specs.declared.fault.Code.TheVariants.{BadInteger, BadDecimal, BadDouble}
use Rattle.csvw_datatype_core.specs.declared.number.NumberRules.{NumberRules}
use Rattle.csvw_datatype_core.specs.declared.number.NumberFault.{NumberFault}
use Rattle.csvw_datatype_core.specs.declared.number.NumberFault.TheVariants as faults
use Rattle.csvw_datatype_core.specs.declared.number.Mark.{Mark}
use Rattle.csvw_datatype_core.specs.declared.number.Mark.TheVariants as marks
use Rattle.csvw_datatype_core.specs.Numbers.{Sign, NoSign, Plus, Minus, signed, divisor, fraction_digits, digits_of, IsFraction, IsMarked, IsLawful}
use Rattle.csvw_datatype_core.specs.Numbers.{ReadsNumber, SpellsNumber}
use Rattle.csvw_datatype_core.specs.Forms.{number_form}
use Rattle.csvw_datatype_core.specs.Misread.{MisreadNumber}
use Rattle.csvw_datatype_core.specs.declared.date.DateFormat.{DateFormat}
use Rattle.csvw_datatype_core.specs.declared.moment.MomentFormat.{MomentFormat}
use Rattle.csvw_datatype_core.specs.Dates.{ReadsDate}
use Rattle.csvw_datatype_core.specs.Moments.{ReadsMoment}
use Rattle.csvw_datatype_core.specs.LexicalDates.{IsDayNumber, IsMomentNumber}
use Rattle.csvw_datatype_core.specs.declared.date_time.DateTime.{DateTime}
use Rattle.csvw_datatype_core.specs.declared.date_time.DateTime.TheVariants as date_times
use Rattle.csvw_datatype_core.specs.declared.zoned_date.ZonedDate.{ZonedDate}
use Rattle.csvw_datatype_core.specs.declared.zoned_date.ZonedDate.TheVariants as dates
use Rattle.csvw_datatype_core.specs.declared.zoned_date.ZonedDateFormat.{ZonedDateFormat}
use Rattle.csvw_datatype_core.specs.ZonedDates.{zoned_date_value}
use Rattle.csvw_datatype_core.specs.declared.date_time.Zone.{Zone}
use Rattle.csvw_double.specs.declared.numeral.DoubleFault.{DoubleFault}
use Rattle.csvw_double.specs.declared.numeral.DoubleFault.TheVariants as double_faults
use Rattle.csvw_double.specs.Doubles.{is_number, is_short}
use Rattle.csvw_double.specs.Forms.{IsDoubleFault, double_form, or_else, special_form}
use Rattle.csvw_datatype.specs.declared.value.Value.{Value}
use Rattle.csvw_datatype.specs.declared.value.Value.TheVariants as values
use Rattle.csvw_datatype.specs.declared.simple.Simple.{Simple}
use Rattle.csvw_datatype.specs.declared.simple.Simple.TheVariants as simples
use Rattle.csvw_datatype.specs.declared.simple.TextType.{TextType}
use Rattle.csvw_datatype.specs.declared.simple.TextType.TheVariants as types
use Rattle.csvw_datatype.specs.declared.simple.Width.{Width}
use Rattle.csvw_datatype.specs.declared.format.Format.{Format}
use Rattle.csvw_datatype.specs.declared.format.Format.TheVariants as formats
use Rattle.csvw_datatype.specs.declared.format.NumberFormat.{NumberFormat}
use Rattle.csvw_datatype.specs.declared.simple.Floating.{Floating}
use Rattle.csvw_datatype.specs.DoubleFormats.{HasNoPlain, IsPlainOf, at_exponent, exponent, is_special, mantissa, mantissa_rules}
use Rattle.csvw_datatype.specs.Formats.{IsFormatOf, fits_format, fits_pattern, format_rules, is_described}
use Rattle.csvw_datatype.specs.Strings.{is_ordered}
use Rattle.csvw_datatype.specs.TextValues.{date_kept, moment_in, text_value, text_if, kept, kept_if, date_time_kept, zoned_format}
use Rattle.csvw_datatype.specs.Widths.{IsInWidth}
use Rattle.csvw_datatype.specs.Reads.{SpellsTruth, whole_rules, decimal_rules, date_format, moment_format, ReadsAs, ReadsNumberAs, MisreadAs, MisreadsNumber, number_code, double_code, ReadsPlain, ReadsFormatted, ReadsDouble, MisreadsPlain, MisreadsFormatted, MisreadsDouble}
use Rattle.csvw_datatype.specs.Sound.{IsNumberSize, IsWholeNumber, IsTextBound, IsBoundOf, has_bounds}
use Rattle.csvw_datatype.specs.Lexical.{IsWritable}
use Rattle.csvw_datatype.proofs.FormatLemmas.{whole_lawful, derived_lawful, decimal_lawful, floating_lawful, mantissa_lawful}

-- the laws of csvw_datatype_core: a text is one number, one date and one moment at most, and days and moments have a range

abbrev pub OneNumber : Type 0
OneNumber = (rules : NumberRules) (cs : List ℕ) (y z : ℤ) → IsLawful rules → ReadsNumber rules cs y → ReadsNumber rules cs z → y ≡ z

abbrev OneDate : Type 0
OneDate = (f : DateFormat) (text : List ℕ) (a b : ℤ) → ReadsDate f text a → ReadsDate f text b → a ≡ b

abbrev OneMoment : Type 0
OneMoment = (f : MomentFormat) (text : List ℕ) (a b : ℤ) → ReadsMoment f text a → ReadsMoment f text b → a ≡ b

abbrev DatesInRange : Type 0
DatesInRange = (f : DateFormat) (text : List ℕ) (day : ℤ) → ReadsDate f text day → IsDayNumber day

abbrev MomentsInRange : Type 0
MomentsInRange = (f : MomentFormat) (text : List ℕ) (moment : ℤ) → ReadsMoment f text moment → IsMomentNumber moment

abbrev pub DateTimesInRange : Type 0
DateTimesInRange = (f : Option Format) (zone : Zone) (text : List ℕ) (moment : ℤ) → moment_in f zone text ≡ Some (date_times.Second moment)
    → IsMomentNumber moment

abbrev pub ZonedDatesInRange : Type 0
ZonedDatesInRange = (f : Option ZonedDateFormat) (text : List ℕ) (day : ℤ) → zoned_date_value f text ≡ Some (dates.Day day) → IsDayNumber day

-- truths

no_both : (b : Bool) → b ≡ true → b ≡ false → ⊥
no_both b t f = cc

by_texts : (T F : Type 0) (a b : Bool) → (T → F → ⊥) → ((a ≡ true) × T) ⊎ ((a ≡ false) × F) → ((b ≡ true) × T) ⊎ ((b ≡ false) × F) → a ≡ b
by_texts T F a b apart (inl r) (inl s) = r.0 ∙ sym s.0
by_texts T F a b apart (inr r) (inr s) = r.0 ∙ sym s.0
by_texts T F a b apart (inl r) (inr s) = absurd (apart r.1 s.1)
by_texts T F a b apart (inr r) (inl s) = absurd (apart s.1 r.1)

apart_heads : (x y : ℕ) (text xs ys : List ℕ) → (x ≡ y → ⊥) → text ≡ x ∷ xs → text ≡ y ∷ ys → ⊥
apart_heads x y text xs ys n p q = let e : x ∷ xs ≡ y ∷ ys = sym p ∙ q in n (cc)

plain_apart : (text : List ℕ) → (text ≡ codes "true") ⊎ (text ≡ codes "1") → (text ≡ codes "false") ⊎ (text ≡ codes "0") → ⊥
plain_apart text (inl p) (inl q) = apart_heads 116 102 text _ _ (λ e. omega arith) p q
plain_apart text (inl p) (inr q) = apart_heads 116 48 text _ _ (λ e. omega arith) p q
plain_apart text (inr p) (inl q) = apart_heads 49 102 text _ _ (λ e. omega arith) p q
plain_apart text (inr p) (inr q) = apart_heads 49 48 text _ _ (λ e. omega arith) p q

one_truth : (f : Option Format) (text : List ℕ) (a b : Bool) → IsFormatOf simples.Truth f → SpellsTruth f text a → SpellsTruth f text b → a ≡ b
one_truth None text a b ok r s = by_texts _ _ a b (plain_apart text) r s
one_truth (Some (formats.Truth f)) text a b ok r s = by_texts (text ≡ f.if_true) (text ≡ f.if_false) a b (λ p q. ok.2 (sym p ∙ q)) r s
one_truth (Some (formats.Number f)) text a b ok r s = absurd ok
one_truth (Some (formats.Day f)) text a b ok r s = absurd ok
one_truth (Some (formats.Moment f)) text a b ok r s = absurd ok
one_truth (Some (formats.Time f)) text a b ok r s = absurd ok
one_truth (Some (formats.ZonedDay f)) text a b ok r s = absurd ok
one_truth (Some (formats.Stamp f)) text a b ok r s = absurd ok
one_truth (Some (formats.Expression e)) text a b ok r s = absurd (no_both false ok refl)

-- numbers

same_number : OneNumber → (rules : NumberRules) (l : IsLawful rules) (cs : List ℕ) (v w : Value) (x y : ℤ) → ReadsNumber rules cs x
    → ReadsNumber rules cs y → v ≡ values.Number x → w ≡ values.Number y → v ≡ w
same_number one rules l cs v w x y r s p q = p ∙ ap (λ z. values.Number z) (one rules cs x y l r s) ∙ sym q

spells_of : (rules : NumberRules) (cs : List ℕ) (z : ℤ) → ReadsNumber rules cs z → SpellsNumber rules cs
spells_of rules cs z r = record { parts = r.parts; is_number = r.is_number; spelled = r.spelled }

not_misread : (rules : NumberRules) (cs : List ℕ) (z : ℤ) (fault : NumberFault) → ReadsNumber rules cs z → MisreadNumber rules cs fault → ⊥
not_misread rules cs z faults.Bad r m = m (spells_of rules cs z r)
not_misread rules cs z faults.TooLong r m = m.1 z r

one_fault : (rules : NumberRules) (cs : List ℕ) (a b : NumberFault) → MisreadNumber rules cs a → MisreadNumber rules cs b → a ≡ b
one_fault rules cs faults.Bad faults.Bad p q = refl
one_fault rules cs faults.TooLong faults.TooLong p q = refl
one_fault rules cs faults.Bad faults.TooLong p q = absurd (p q.0)
one_fault rules cs faults.TooLong faults.Bad p q = absurd (q p.0)

not_misread_as : (bad : Code) (rules : NumberRules) (f : Option Format) (text : List ℕ) (z : ℤ) (c : Code) → ReadsNumberAs rules f text z
    → MisreadsNumber bad rules f text c → ⊥
not_misread_as bad rules f text z c r (inl m) = no_both (fits_format f (chars text)) r.1 m.0
not_misread_as bad rules f text z c r (inr m) = not_misread rules (chars text) z m.1 r.0 m.2

one_number_code : (bad : Code) (rules : NumberRules) (f : Option Format) (text : List ℕ) (c d : Code) → MisreadsNumber bad rules f text c
    → MisreadsNumber bad rules f text d → c ≡ d
one_number_code bad rules f text c d (inl p) (inl q) = p.1 ∙ sym q.1
one_number_code bad rules f text c d (inl p) (inr q) = absurd (no_both (fits_format f (chars text)) q.0 p.0)
one_number_code bad rules f text c d (inr p) (inl q) = absurd (no_both (fits_format f (chars text)) p.0 q.0)
one_number_code bad rules f text c d (inr p) (inr q) = p.3 ∙ ap (number_code bad) (one_fault rules (chars text) p.1 q.1 p.2 q.2) ∙ sym q.3

-- doubles

no_double : (o : Option (List ℕ)) (a b : Bool) (x form : List ℕ) → o ≡ None → (a && b) ≡ false → or_else o (if a && b then Some x else None) ≡ Some form → ⊥
no_double None true true x form none is e = cc
no_double None true false x form none is e = cc
no_double None false b x form none is e = cc
no_double (Some y) a b x form none is e = cc

either : (a b : Bool) → a ≡ false → (a && b) ≡ false
either false b is = refl
either true b is = cc

second : (a b : Bool) → b ≡ false → (a && b) ≡ false
second true b is = is
second false b is = refl

double_or_fault : (text form : List ℕ) (fault : DoubleFault) → double_form text ≡ Some form → IsDoubleFault text fault → ⊥
unfolding double_form
double_or_fault text form double_faults.Bad is h = no_double (special_form text) (is_number text) (is_short text) _ form h.0 (either (is_number text) (is_short text) h.1) is
double_or_fault text form double_faults.TooLong is h =
    no_double (special_form text) (is_number text) (is_short text) _ form h.0 (second (is_number text) (is_short text) h.1.1) is

one_double_fault : (text : List ℕ) (a b : DoubleFault) → IsDoubleFault text a → IsDoubleFault text b → a ≡ b
one_double_fault text double_faults.Bad double_faults.Bad p q = refl
one_double_fault text double_faults.TooLong double_faults.TooLong p q = refl
one_double_fault text double_faults.Bad double_faults.TooLong p q = absurd (apart p.1 q.1.0)
  where
    apart : {b : Bool} → b ≡ false → b ≡ true → ⊥
    apart x y = cc
one_double_fault text double_faults.TooLong double_faults.Bad p q = absurd (apart q.1 p.1.0)
  where
    apart : {b : Bool} → b ≡ false → b ≡ true → ⊥
    apart x y = cc

some_or_none : {A : Type 0} (o : Option A) (x : A) → o ≡ Some x → o ≡ None → ⊥
some_or_none None x is none = cc
some_or_none (Some y) x is none = cc

inside : (x y : List ℕ) → Some x ≡ Some y → x ≡ y
inside x y e = ap (λ o. unwrap_or o []) e

pub same_value : {v w : Value} → Some v ≡ Some w → v ≡ w
same_value {v = v} e = ap (λ o. unwrap_or o v) e

-- numbers with an exponent in a format

abbrev OnePlain : Type 0
OnePlain = (f : NumberFormat) (text p q : List ℕ) → IsLawful (format_rules f) → IsPlainOf f text p → IsPlainOf f text q → p ≡ q

one_plain : OneNumber → OnePlain
one_plain one f text p q l (inl a) (inl b) = a.1 ∙ sym b.1
one_plain one f text p q l (inl a) (inr b) = absurd (no_both (is_special text) a.0 b.0)
one_plain one f text p q l (inr a) (inl b) = absurd (no_both (is_special text) b.0 a.0)
one_plain one f text p q l (inr a) (inr b) =
    let parts : Option (List ℕ × List ℕ) = at_exponent f text in
    let same : a.1.0 ≡ b.1.0 = one (mantissa_rules f parts) (chars (mantissa text parts)) a.1.0 b.1.0 (mantissa_lawful f parts l) a.1.1 b.1.1 in
    a.1.2 ∙ ap (λ z. number_form z ++ exponent parts) same ∙ sym b.1.2

plain_value : (text : List ℕ) (v w : Value) → ReadsPlain text v → ReadsPlain text w → v ≡ w
plain_value text v w r s = r.2 ∙ ap (λ x. values.Text x) (inside r.0 s.0 (sym r.1 ∙ s.1)) ∙ sym s.2

formatted_value : OnePlain → (f : NumberFormat) (text : List ℕ) (v w : Value) → IsLawful (format_rules f) → ReadsFormatted f text v
    → ReadsFormatted f text w → v ≡ w
formatted_value one f text v w l r s = plain_value s.1 v w (subst (λ p. ReadsPlain p v) (one f text r.1 s.1 l r.2 s.2) r.3) s.3

double_value : OneNumber → (o : Option Format) (text : List ℕ) (v w : Value) → IsLawful (decimal_rules o) → ReadsDouble o text v
    → ReadsDouble o text w → v ≡ w
double_value one None text v w l r s = plain_value text v w r s
double_value one (Some (formats.Number f)) text v w l r s = formatted_value (one_plain one) f text v w l r s
double_value one (Some (formats.Truth f)) text v w l r s = plain_value text v w r s
double_value one (Some (formats.Day f)) text v w l r s = plain_value text v w r s
double_value one (Some (formats.Moment f)) text v w l r s = plain_value text v w r s
double_value one (Some (formats.Time f)) text v w l r s = plain_value text v w r s
double_value one (Some (formats.ZonedDay f)) text v w l r s = plain_value text v w r s
double_value one (Some (formats.Stamp f)) text v w l r s = plain_value text v w r s
double_value one (Some (formats.Expression e)) text v w l r s = plain_value text v w r s

plain_or_fault : (text : List ℕ) (v : Value) (code : Code) → ReadsPlain text v → MisreadsPlain text code → ⊥
plain_or_fault text v code r m = double_or_fault text r.0 m.0 r.1 m.1

plain_or_none : (f : NumberFormat) (text plain : List ℕ) (fault : NumberFault) → IsPlainOf f text plain → HasNoPlain f text fault → ⊥
plain_or_none f text plain fault (inl a) h = no_both (is_special text) a.0 h.0
plain_or_none f text plain fault (inr a) h =
    not_misread (mantissa_rules f (at_exponent f text)) (chars (mantissa text (at_exponent f text))) a.1.0 fault a.1.1 h.1

formatted_or_code : OnePlain → (f : NumberFormat) (text : List ℕ) (v : Value) (code : Code) → IsLawful (format_rules f) → ReadsFormatted f text v
    → MisreadsFormatted f text code → ⊥
formatted_or_code one f text v code l r (inl m) = no_both (fits_pattern f (chars text)) r.0 m.0
formatted_or_code one f text v code l r (inr (inl m)) = plain_or_none f text r.1 m.1 r.2 m.2
formatted_or_code one f text v code l r (inr (inr m)) =
    plain_or_fault m.1 v code (subst (λ p. ReadsPlain p v) (one f text r.1 m.1 l r.2 m.2) r.3) m.3

double_or_code : OneNumber → (o : Option Format) (text : List ℕ) (v : Value) (code : Code) → IsLawful (decimal_rules o) → ReadsDouble o text v
    → MisreadsDouble o text code → ⊥
double_or_code one None text v code l r m = plain_or_fault text v code r m
double_or_code one (Some (formats.Number f)) text v code l r m = formatted_or_code (one_plain one) f text v code l r m
double_or_code one (Some (formats.Truth f)) text v code l r m = plain_or_fault text v code r m
double_or_code one (Some (formats.Day f)) text v code l r m = plain_or_fault text v code r m
double_or_code one (Some (formats.Moment f)) text v code l r m = plain_or_fault text v code r m
double_or_code one (Some (formats.Time f)) text v code l r m = plain_or_fault text v code r m
double_or_code one (Some (formats.ZonedDay f)) text v code l r m = plain_or_fault text v code r m
double_or_code one (Some (formats.Stamp f)) text v code l r m = plain_or_fault text v code r m
double_or_code one (Some (formats.Expression e)) text v code l r m = plain_or_fault text v code r m

plain_code : (text : List ℕ) (c d : Code) → MisreadsPlain text c → MisreadsPlain text d → c ≡ d
plain_code text c d p q = p.2 ∙ ap double_code (one_double_fault text p.0 q.0 p.1 q.1) ∙ sym q.2

none_fault : (f : NumberFormat) (text : List ℕ) (a b : NumberFault) → HasNoPlain f text a → HasNoPlain f text b → a ≡ b
none_fault f text a b p q = one_fault (mantissa_rules f (at_exponent f text)) (chars (mantissa text (at_exponent f text))) a b p.1 q.1

formatted_code : OnePlain → (f : NumberFormat) (text : List ℕ) (c d : Code) → IsLawful (format_rules f) → MisreadsFormatted f text c
    → MisreadsFormatted f text d → c ≡ d
formatted_code one f text c d l (inl p) (inl q) = p.1 ∙ sym q.1
formatted_code one f text c d l (inl p) (inr (inl q)) = absurd (no_both (fits_pattern f (chars text)) q.0 p.0)
formatted_code one f text c d l (inl p) (inr (inr q)) = absurd (no_both (fits_pattern f (chars text)) q.0 p.0)
formatted_code one f text c d l (inr (inl p)) (inl q) = absurd (no_both (fits_pattern f (chars text)) p.0 q.0)
formatted_code one f text c d l (inr (inr p)) (inl q) = absurd (no_both (fits_pattern f (chars text)) p.0 q.0)
formatted_code one f text c d l (inr (inl p)) (inr (inl q)) = p.3 ∙ ap (number_code BadDouble) (none_fault f text p.1 q.1 p.2 q.2) ∙ sym q.3
formatted_code one f text c d l (inr (inl p)) (inr (inr q)) = absurd (plain_or_none f text q.1 p.1 q.2 p.2)
formatted_code one f text c d l (inr (inr p)) (inr (inl q)) = absurd (plain_or_none f text p.1 q.1 p.2 q.2)
formatted_code one f text c d l (inr (inr p)) (inr (inr q)) =
    plain_code q.1 c d (subst (λ t. MisreadsPlain t c) (one f text p.1 q.1 l p.2 q.2) p.3) q.3

double_codes : OneNumber → (o : Option Format) (text : List ℕ) (c d : Code) → IsLawful (decimal_rules o) → MisreadsDouble o text c
    → MisreadsDouble o text d → c ≡ d
double_codes one None text c d l p q = plain_code text c d p q
double_codes one (Some (formats.Number f)) text c d l p q = formatted_code (one_plain one) f text c d l p q
double_codes one (Some (formats.Truth f)) text c d l p q = plain_code text c d p q
double_codes one (Some (formats.Day f)) text c d l p q = plain_code text c d p q
double_codes one (Some (formats.Moment f)) text c d l p q = plain_code text c d p q
double_codes one (Some (formats.Time f)) text c d l p q = plain_code text c d p q
double_codes one (Some (formats.ZonedDay f)) text c d l p q = plain_code text c d p q
double_codes one (Some (formats.Stamp f)) text c d l p q = plain_code text c d p q
double_codes one (Some (formats.Expression e)) text c d l p q = plain_code text c d p q

-- values

pub one_value : OneNumber → OneDate → OneMoment → (s : Simple) (f : Option Format) (text : List ℕ) (v w : Value) → IsFormatOf s f → ReadsAs s f text v
    → ReadsAs s f text w → v ≡ w
one_value one date moment simples.Text f text v w ok r s = r.1 ∙ sym s.1
one_value one date moment simples.Uri f text v w ok r s = r.1 ∙ sym s.1
one_value one date moment (simples.Other t) f text v w ok r s = same_value (sym r ∙ s)
one_value one date moment (simples.Floating t) f text v w ok r s = double_value one f text v w (floating_lawful t f ok) r s
one_value one date moment simples.Truth f text v w ok r s = r.2 ∙ ap (λ b. values.Truth b) (one_truth f text r.0 s.0 ok r.1 s.1) ∙ sym s.2
one_value one date moment simples.Whole f text v w ok r s = same_number one (whole_rules f) (whole_lawful f ok) (chars text) v w r.0 s.0 r.1.0 s.1.0 r.2 s.2
one_value one date moment (simples.Derived width) f text v w ok r s =
    same_number one (whole_rules f) (derived_lawful width f ok) (chars text) v w r.0 s.0 r.1.0 s.1.0 r.3 s.3
one_value one date moment simples.Decimal f text v w ok r s = same_number one (decimal_rules f) (decimal_lawful f ok) (chars text) v w r.0 s.0 r.1.0 s.1.0 r.2 s.2
one_value one date moment simples.Day f text v w ok r s = r.2 ∙ ap (λ d. values.Day d) (date (date_format f) text r.0 s.0 r.1 s.1) ∙ sym s.2
one_value one date moment simples.Moment f text v w ok r s = r.2 ∙ ap (λ m. values.Moment m) (moment (moment_format f) text r.0 s.0 r.1 s.1) ∙ sym s.2

in_width : (w : Width) (x y : ℤ) → x ≡ y → IsInWidth w x → IsInWidth w y
in_width w x y e h = let P : ℤ → Type 0 = λ z. IsInWidth w z in subst P e h

pub value_or_code : OneNumber → (s : Simple) (f : Option Format) (text : List ℕ) (v : Value) (code : Code) → IsFormatOf s f → ReadsAs s f text v
    → MisreadAs s f text code → ⊥
value_or_code one simples.Text f text v code ok r m = no_both (is_described f text) r.0 m.0
value_or_code one simples.Uri f text v code ok r m = no_both (is_described f text) r.0 m.0
value_or_code one (simples.Other t) f text v code ok r m = some_or_none (text_value t f text) v r m.0
value_or_code one (simples.Floating t) f text v code ok r m = double_or_code one f text v code (floating_lawful t f ok) r m
value_or_code one simples.Truth f text v code ok r m = m.0 r.0 r.1
value_or_code one simples.Whole f text v code ok r m = not_misread_as BadInteger (whole_rules f) f text r.0 code r.1 m
value_or_code one (simples.Derived w) f text v code ok r m = elim m [
  | inl n ↦ not_misread_as BadInteger (whole_rules f) f text r.0 code r.1 n
  | inr n ↦ n.2 (in_width w r.0 n.0 (one (whole_rules f) (chars text) r.0 n.0 (derived_lawful w f ok) r.1.0 n.1.0) r.2)
]
value_or_code one simples.Decimal f text v code ok r m = not_misread_as BadDecimal (decimal_rules f) f text r.0 code r.1 m
value_or_code one simples.Day f text v code ok r m = m.0 r.0 r.1
value_or_code one simples.Moment f text v code ok r m = m.0 r.0 r.1

pub one_code : OneNumber → (s : Simple) (f : Option Format) (text : List ℕ) (c d : Code) → IsFormatOf s f → MisreadAs s f text c → MisreadAs s f text d → c ≡ d
one_code one simples.Text f text c d ok p q = p.1 ∙ sym q.1
one_code one simples.Uri f text c d ok p q = p.1 ∙ sym q.1
one_code one (simples.Other t) f text c d ok p q = p.1 ∙ sym q.1
one_code one (simples.Floating t) f text c d ok p q = double_codes one f text c d (floating_lawful t f ok) p q
one_code one simples.Truth f text c d ok p q = p.1 ∙ sym q.1
one_code one simples.Whole f text c d ok p q = one_number_code BadInteger (whole_rules f) f text c d p q
one_code one (simples.Derived w) f text c d ok p q = elim p [
  | inl m ↦ elim q [
    | inl n ↦ one_number_code BadInteger (whole_rules f) f text c d m n
    | inr n ↦ absurd (not_misread_as BadInteger (whole_rules f) f text n.0 c n.1 m)
  ]
  | inr m ↦ elim q [
    | inl n ↦ absurd (not_misread_as BadInteger (whole_rules f) f text m.0 d m.1 n)
    | inr n ↦ m.3 ∙ sym n.3
  ]
]
one_code one simples.Decimal f text c d ok p q = one_number_code BadDecimal (decimal_rules f) f text c d p q
one_code one simples.Day f text c d ok p q = p.1 ∙ sym q.1
one_code one simples.Moment f text c d ok p q = p.1 ∙ sym q.1

-- what a text is can be written, and is of the type

signed_abs : (s : Sign) (n : ℕ) → unsigned_abs (signed s n) ≡ n
signed_abs NoSign n = refl
signed_abs Plus n = refl
signed_abs Minus zero = refl
signed_abs Minus (suc n) = refl

pub size : (rules : NumberRules) (cs : List ℕ) (z : ℤ) → ReadsNumber rules cs z → IsNumberSize z
size rules cs z r = let e : unsigned_abs z ≡ r.count = ap unsigned_abs r.is_value ∙ signed_abs r.parts.sign r.count in subst (λ n. n < 10 ^ 38) (sym e) r.small

no_fraction : (group : Option ℕ) (o : Option (List ℕ)) → IsFraction (record { decimal_char = None; group_char = group; allows_marks = false }) o
    → unwrap_or o [] ≡ []
no_fraction group None h = refl
no_fraction group (Some ds) h = absurd (cc (h.0))

no_mark : (group : Option ℕ) (m : Mark) → IsMarked (record { decimal_char = None; group_char = group; allows_marks = false }) m → divisor m ≡ 1
no_mark group marks.Plain h = refl
no_mark group marks.Percent h = cc
no_mark group marks.PerMille h = cc

count_whole : (n v l d : ℕ) → l ≡ 1 → d ≡ 1 → n * (l * d) ≡ v * 10 ^ 18 → n % 10 ^ 18 ≡ 0
count_whole n v l d a b e =
    let s : n ≡ v * 10 ^ 18 = omega (arith, rw (a, b) at e) in
    ap (λ n. n % 10 ^ 18) s ∙ mul-mod_left v (10 ^ 18)

whole_group : (group : Option ℕ) (cs : List ℕ) (z : ℤ) → ReadsNumber (record { decimal_char = None; group_char = group; allows_marks = false }) cs z
    → IsWholeNumber z
whole_group group cs z r =
    let e : unsigned_abs z ≡ r.count = ap unsigned_abs r.is_value ∙ signed_abs r.parts.sign r.count in
    let f : 10 ^ length (fraction_digits r.parts) ≡ 1 = ap (λ ds. 10 ^ length ds) (no_fraction group r.parts.fraction r.is_number.fraction) in
    ap (λ n. n % 10 ^ 18) e ∙ count_whole r.count (digits_value 10 (digits_of r.parts)) _ _ f (no_mark group r.parts.mark r.is_number.mark) r.is_count

whole : (f : Option Format) (cs : List ℕ) (z : ℤ) → ReadsNumber (whole_rules f) cs z → IsWholeNumber z
whole None cs z r = whole_group None cs z r
whole (Some (formats.Number f)) cs z r = whole_group f.group_char cs z r
whole (Some (formats.Truth f)) cs z r = whole_group None cs z r
whole (Some (formats.Day f)) cs z r = whole_group None cs z r
whole (Some (formats.Moment f)) cs z r = whole_group None cs z r
whole (Some (formats.Time f)) cs z r = whole_group None cs z r
whole (Some (formats.ZonedDay f)) cs z r = whole_group None cs z r
whole (Some (formats.Stamp f)) cs z r = whole_group None cs z r
whole (Some (formats.Expression e)) cs z r = whole_group None cs z r

pub at_value : (P : Value → Type 0) (v w : Value) → v ≡ w → P w → P v
at_value P v w e h = subst P (sym e) h

if_writable : (is_one : Bool) (text : List ℕ) (v : Value) → text_if is_one text ≡ Some v → IsWritable v
if_writable true text v e = at_value (λ v. IsWritable v) v (values.Text text) (sym (same_value e)) tt
if_writable false text v e = cc

kept_writable : (o : Option (List ℕ)) (v : Value) → kept o ≡ Some v → IsWritable v
kept_writable None v e = cc
kept_writable (Some text) v e = at_value (λ v. IsWritable v) v (values.Text text) (sym (same_value e)) tt

kept_if_writable : (is_one : Bool) (o : Option (List ℕ)) (v : Value) → kept_if is_one o ≡ Some v → IsWritable v
kept_if_writable true o v e = kept_writable o v e
kept_if_writable false o v e = cc

date_time_writable : (o : Option DateTime) (v : Value) → ((moment : ℤ) → o ≡ Some (date_times.Second moment) → IsMomentNumber moment)
    → date_time_kept o ≡ Some v → IsWritable v
date_time_writable None v range e = cc
date_time_writable (Some (date_times.Second moment)) v range e =
    at_value (λ v. IsWritable v) v (values.Moment moment) (sym (same_value e)) (range moment refl)
date_time_writable (Some (date_times.Written text)) v range e = at_value (λ v. IsWritable v) v (values.Text text) (sym (same_value e)) tt

date_writable : (o : Option ZonedDate) (v : Value) → ((day : ℤ) → o ≡ Some (dates.Day day) → IsDayNumber day) → date_kept o ≡ Some v → IsWritable v
date_writable None v range e = cc
date_writable (Some (dates.Day day)) v range e = at_value (λ v. IsWritable v) v (values.Day day) (sym (same_value e)) (range day refl)
date_writable (Some (dates.Written text)) v range e = at_value (λ v. IsWritable v) v (values.Text text) (sym (same_value e)) tt

text_writable : DateTimesInRange → ZonedDatesInRange → (t : TextType) (f : Option Format) (text : List ℕ) (v : Value) → text_value t f text ≡ Some v → IsWritable v
unfolding text_value
text_writable zoned dated types.Any f text v e = if_writable _ text v e
text_writable zoned dated types.Normalized f text v e = if_writable _ text v e
text_writable zoned dated types.Token f text v e = if_writable _ text v e
text_writable zoned dated types.Language f text v e = if_writable _ text v e
text_writable zoned dated types.Name f text v e = if_writable _ text v e
text_writable zoned dated types.NameToken f text v e = if_writable _ text v e
text_writable zoned dated types.QualifiedName f text v e = if_writable _ text v e
text_writable zoned dated types.Xml f text v e = if_writable _ text v e
text_writable zoned dated types.Html f text v e = if_writable _ text v e
text_writable zoned dated types.Json f text v e = if_writable _ text v e
text_writable zoned dated types.Time f text v e = kept_writable _ v e
text_writable zoned dated types.Date f text v e = date_writable _ v (dated (zoned_format f) text) e
text_writable zoned dated (types.DateTime zone) f text v e = date_time_writable _ v (zoned f zone text) e
text_writable zoned dated (types.Part part) f text v e = kept_writable _ v e
text_writable zoned dated (types.Binary form) f text v e = kept_if_writable _ _ v e
text_writable zoned dated (types.Duration kind) f text v e = kept_if_writable _ _ v e

plain_writable : (text : List ℕ) (v : Value) → ReadsPlain text v → IsWritable v
plain_writable text v r = at_value (λ v. IsWritable v) v (values.Text r.0) r.2 tt

double_writable : (o : Option Format) (text : List ℕ) (v : Value) → ReadsDouble o text v → IsWritable v
double_writable None text v r = plain_writable text v r
double_writable (Some (formats.Number f)) text v r = plain_writable r.1 v r.3
double_writable (Some (formats.Truth f)) text v r = plain_writable text v r
double_writable (Some (formats.Day f)) text v r = plain_writable text v r
double_writable (Some (formats.Moment f)) text v r = plain_writable text v r
double_writable (Some (formats.Time f)) text v r = plain_writable text v r
double_writable (Some (formats.ZonedDay f)) text v r = plain_writable text v r
double_writable (Some (formats.Stamp f)) text v r = plain_writable text v r
double_writable (Some (formats.Expression e)) text v r = plain_writable text v r

pub writable : DatesInRange → MomentsInRange → DateTimesInRange → ZonedDatesInRange → (s : Simple) (f : Option Format) (text : List ℕ) (v : Value) → ReadsAs s f text v → IsWritable v
writable dates moments zoned dated simples.Text f text v r = at_value (λ v. IsWritable v) v (values.Text text) r.1 tt
writable dates moments zoned dated simples.Uri f text v r = at_value (λ v. IsWritable v) v (values.Text text) r.1 tt
writable dates moments zoned dated (simples.Other t) f text v r = text_writable zoned dated t f text v r
writable dates moments zoned dated (simples.Floating t) f text v r = double_writable f text v r
writable dates moments zoned dated simples.Truth f text v r = at_value (λ v. IsWritable v) v (values.Truth r.0) r.2 tt
writable dates moments zoned dated simples.Whole f text v r = at_value (λ v. IsWritable v) v (values.Number r.0) r.2 (size (whole_rules f) (chars text) r.0 r.1.0)
writable dates moments zoned dated (simples.Derived w) f text v r = at_value (λ v. IsWritable v) v (values.Number r.0) r.3 (size (whole_rules f) (chars text) r.0 r.1.0)
writable dates moments zoned dated simples.Decimal f text v r = at_value (λ v. IsWritable v) v (values.Number r.0) r.2 (size (decimal_rules f) (chars text) r.0 r.1.0)
writable dates moments zoned dated simples.Day f text v r = at_value (λ v. IsWritable v) v (values.Day r.0) r.2 (dates (date_format f) text r.0 r.1)
writable dates moments zoned dated simples.Moment f text v r = at_value (λ v. IsWritable v) v (values.Moment r.0) r.2 (moments (moment_format f) text r.0 r.1)

pub writable_answer : ((s : Simple) (f : Option Format) (text : List ℕ) (v : Value) → ReadsAs s f text v → IsWritable v)
    → (s : Simple) (f : Option Format) (text : List ℕ) (r : Result Value Code) → MatchResult r (ReadsAs s f text) (MisreadAs s f text) → IfOk r IsWritable
writable_answer law s f text (Ok v) h = law s f text v h
writable_answer law s f text (Err code) h = tt

pub writable_answers : {E : Type 0} → ((s : Simple) (f : Option Format) (text : List ℕ) (v : Value) → ReadsAs s f text v → IsWritable v)
    → (s : Simple) (f : Option Format) (text : List ℕ) (r : Result (Result Value Code) E) → IfOk r (λ a. MatchResult a (ReadsAs s f text) (MisreadAs s f text))
    → IfOk r (λ a. IfOk a IsWritable)
writable_answers law s f text (Ok a) h = writable_answer law s f text a h
writable_answers law s f text (Err e) h = tt

-- the canonical text of a double is a double
abbrev pub FormsStay : Type 0
FormsStay = (text form : List ℕ) → double_form text ≡ Some form → double_form form ≡ Some form

plain_bound : FormsStay → (t : Floating) (text : List ℕ) (v : Value) → ReadsPlain text v → IsBoundOf (simples.Floating t) v
plain_bound stay t text v r = at_value (λ v. IsBoundOf (simples.Floating t) v) v (values.Text r.0) r.2 (ap is_some (stay text r.0 r.1))

double_bound : FormsStay → (t : Floating) (o : Option Format) (text : List ℕ) (v : Value) → ReadsDouble o text v → IsBoundOf (simples.Floating t) v
double_bound stay t None text v r = plain_bound stay t text v r
double_bound stay t (Some (formats.Number f)) text v r = plain_bound stay t r.1 v r.3
double_bound stay t (Some (formats.Truth f)) text v r = plain_bound stay t text v r
double_bound stay t (Some (formats.Day f)) text v r = plain_bound stay t text v r
double_bound stay t (Some (formats.Moment f)) text v r = plain_bound stay t text v r
double_bound stay t (Some (formats.Time f)) text v r = plain_bound stay t text v r
double_bound stay t (Some (formats.ZonedDay f)) text v r = plain_bound stay t text v r
double_bound stay t (Some (formats.Stamp f)) text v r = plain_bound stay t text v r
double_bound stay t (Some (formats.Expression e)) text v r = plain_bound stay t text v r

-- each value of a type of texts that are ordered can be a bound
abbrev pub TextBounds : Type 0
TextBounds = (t : TextType) (f : Option Format) (text : List ℕ) (v : Value) → is_ordered t ≡ true → text_value t f text ≡ Some v → IsTextBound t v

pub bound : DatesInRange → MomentsInRange → FormsStay → TextBounds → (s : Simple) (f : Option Format) (text : List ℕ) (v : Value) → has_bounds s ≡ true → ReadsAs s f text v
    → IsBoundOf s v
bound dates moments stay texts simples.Text f text v h r = cc
bound dates moments stay texts simples.Uri f text v h r = cc
bound dates moments stay texts (simples.Other t) f text v h r = texts t f text v h r
bound dates moments stay texts (simples.Floating t) f text v h r = double_bound stay t f text v r
bound dates moments stay texts simples.Truth f text v h r = cc
bound dates moments stay texts simples.Whole f text v h r =
    at_value (λ v. IsBoundOf simples.Whole v) v (values.Number r.0) r.2 (size (whole_rules f) (chars text) r.0 r.1.0, whole f (chars text) r.0 r.1.0)
bound dates moments stay texts (simples.Derived w) f text v h r = at_value (λ v. IsBoundOf (simples.Derived w) v) v (values.Number r.0) r.3
    (size (whole_rules f) (chars text) r.0 r.1.0, whole f (chars text) r.0 r.1.0, r.2)
bound dates moments stay texts simples.Decimal f text v h r =
    at_value (λ v. IsBoundOf simples.Decimal v) v (values.Number r.0) r.2 (size (decimal_rules f) (chars text) r.0 r.1.0)
bound dates moments stay texts simples.Day f text v h r = at_value (λ v. IsBoundOf simples.Day v) v (values.Day r.0) r.2 (dates (date_format f) text r.0 r.1)
bound dates moments stay texts simples.Moment f text v h r = at_value (λ v. IsBoundOf simples.Moment v) v (values.Moment r.0) r.2 (moments (moment_format f) text r.0 r.1)
