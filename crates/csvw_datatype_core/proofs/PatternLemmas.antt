-- The format of a pattern, by the other form of `of`.
use Rattle.std.proofs.Common.{◌≡◌, ◌≢◌, MatchOption, ℕ, List, [], ◌∷◌, Option, Some, None, Bool, true, false, refl, sym, bytes_eq}
use Rattle.std.proofs.lemmas.Slice.Eq.{bytes_eq-Decides}
use Rattle.csvw_datatype_core.specs.declared.date.Separator.TheVariants.{Dash, Slash, Dot}
use Rattle.csvw_datatype_core.specs.declared.date.FieldDigits.TheVariants.{Two, OneOrTwo}
use Rattle.csvw_datatype_core.specs.declared.date.DateFormat.{DateFormat}
use Rattle.csvw_datatype_core.specs.declared.date.DateFormat.TheVariants.{YearFirst, Compact, DayFirst, MonthFirst}
use Rattle.csvw_datatype_core.specs.declared.moment.MomentFormat.{MomentFormat}
use Rattle.csvw_datatype_core.specs.declared.moment.MomentFormat.TheVariants.{Seconds, Minutes, Spaced}
use Rattle.csvw_datatype_core.specs.declared.time.TimeFormat.{TimeFormat}
use Rattle.csvw_datatype_core.specs.declared.time.TimeFormat.TheVariants as times
use Rattle.csvw_datatype_core.specs.DatePatterns.{date_pattern, moment_pattern}
use Rattle.csvw_datatype_core.specs.Times.{time_pattern}
use Rattle.csvw_datatype_core.specs.PatternLists.{date_formats, moment_formats, time_formats, patterned_in, date_format_of, moment_format_of, time_format_of}

unequal : (b : Bool) → (b ≡ true → ⊥) → b ≡ false
unequal true h = absurd (h refl)
unequal false h = refl

differs : (a b : List ℕ) → (a ≡ b → ⊥) → bytes_eq a b ≡ false
differs a b h = unequal (bytes_eq a b) (λ e. h ((bytes_eq-Decides a b).0 e))

none_in : {F : Type 0} (pattern_of : F → List ℕ) (text : List ℕ) → ((f : F) → text ≢ pattern_of f) → (fs : List F) → patterned_in pattern_of fs text ≡ None
none_in pattern_of text h [] = refl
none_in pattern_of text h (f ∷ fs) = rw (differs text (pattern_of f) (h f)) (none_in pattern_of text h fs)

one_date : (text : List ℕ) (f : DateFormat) → text ≡ date_pattern f → date_format_of text ≡ Some f
one_date text YearFirst e = rw e refl
one_date text Compact e = rw e refl
one_date text (DayFirst Two Dash) e = rw e refl
one_date text (DayFirst Two Slash) e = rw e refl
one_date text (DayFirst Two Dot) e = rw e refl
one_date text (DayFirst OneOrTwo Dash) e = rw e refl
one_date text (DayFirst OneOrTwo Slash) e = rw e refl
one_date text (DayFirst OneOrTwo Dot) e = rw e refl
one_date text (MonthFirst Two Dash) e = rw e refl
one_date text (MonthFirst Two Slash) e = rw e refl
one_date text (MonthFirst Two Dot) e = rw e refl
one_date text (MonthFirst OneOrTwo Dash) e = rw e refl
one_date text (MonthFirst OneOrTwo Slash) e = rw e refl
one_date text (MonthFirst OneOrTwo Dot) e = rw e refl

one_moment : (text : List ℕ) (f : MomentFormat) → text ≡ moment_pattern f → moment_format_of text ≡ Some f
one_moment text Seconds e = rw e refl
one_moment text Minutes e = rw e refl
one_moment text (Spaced YearFirst times.Seconds) e = rw e refl
one_moment text (Spaced YearFirst times.CompactSeconds) e = rw e refl
one_moment text (Spaced YearFirst times.Minutes) e = rw e refl
one_moment text (Spaced YearFirst times.CompactMinutes) e = rw e refl
one_moment text (Spaced Compact times.Seconds) e = rw e refl
one_moment text (Spaced Compact times.CompactSeconds) e = rw e refl
one_moment text (Spaced Compact times.Minutes) e = rw e refl
one_moment text (Spaced Compact times.CompactMinutes) e = rw e refl
one_moment text (Spaced (DayFirst Two Dash) times.Seconds) e = rw e refl
one_moment text (Spaced (DayFirst Two Dash) times.CompactSeconds) e = rw e refl
one_moment text (Spaced (DayFirst Two Dash) times.Minutes) e = rw e refl
one_moment text (Spaced (DayFirst Two Dash) times.CompactMinutes) e = rw e refl
one_moment text (Spaced (DayFirst Two Slash) times.Seconds) e = rw e refl
one_moment text (Spaced (DayFirst Two Slash) times.CompactSeconds) e = rw e refl
one_moment text (Spaced (DayFirst Two Slash) times.Minutes) e = rw e refl
one_moment text (Spaced (DayFirst Two Slash) times.CompactMinutes) e = rw e refl
one_moment text (Spaced (DayFirst Two Dot) times.Seconds) e = rw e refl
one_moment text (Spaced (DayFirst Two Dot) times.CompactSeconds) e = rw e refl
one_moment text (Spaced (DayFirst Two Dot) times.Minutes) e = rw e refl
one_moment text (Spaced (DayFirst Two Dot) times.CompactMinutes) e = rw e refl
one_moment text (Spaced (DayFirst OneOrTwo Dash) times.Seconds) e = rw e refl
one_moment text (Spaced (DayFirst OneOrTwo Dash) times.CompactSeconds) e = rw e refl
one_moment text (Spaced (DayFirst OneOrTwo Dash) times.Minutes) e = rw e refl
one_moment text (Spaced (DayFirst OneOrTwo Dash) times.CompactMinutes) e = rw e refl
one_moment text (Spaced (DayFirst OneOrTwo Slash) times.Seconds) e = rw e refl
one_moment text (Spaced (DayFirst OneOrTwo Slash) times.CompactSeconds) e = rw e refl
one_moment text (Spaced (DayFirst OneOrTwo Slash) times.Minutes) e = rw e refl
one_moment text (Spaced (DayFirst OneOrTwo Slash) times.CompactMinutes) e = rw e refl
one_moment text (Spaced (DayFirst OneOrTwo Dot) times.Seconds) e = rw e refl
one_moment text (Spaced (DayFirst OneOrTwo Dot) times.CompactSeconds) e = rw e refl
one_moment text (Spaced (DayFirst OneOrTwo Dot) times.Minutes) e = rw e refl
one_moment text (Spaced (DayFirst OneOrTwo Dot) times.CompactMinutes) e = rw e refl
one_moment text (Spaced (MonthFirst Two Dash) times.Seconds) e = rw e refl
one_moment text (Spaced (MonthFirst Two Dash) times.CompactSeconds) e = rw e refl
one_moment text (Spaced (MonthFirst Two Dash) times.Minutes) e = rw e refl
one_moment text (Spaced (MonthFirst Two Dash) times.CompactMinutes) e = rw e refl
one_moment text (Spaced (MonthFirst Two Slash) times.Seconds) e = rw e refl
one_moment text (Spaced (MonthFirst Two Slash) times.CompactSeconds) e = rw e refl
one_moment text (Spaced (MonthFirst Two Slash) times.Minutes) e = rw e refl
one_moment text (Spaced (MonthFirst Two Slash) times.CompactMinutes) e = rw e refl
one_moment text (Spaced (MonthFirst Two Dot) times.Seconds) e = rw e refl
one_moment text (Spaced (MonthFirst Two Dot) times.CompactSeconds) e = rw e refl
one_moment text (Spaced (MonthFirst Two Dot) times.Minutes) e = rw e refl
one_moment text (Spaced (MonthFirst Two Dot) times.CompactMinutes) e = rw e refl
one_moment text (Spaced (MonthFirst OneOrTwo Dash) times.Seconds) e = rw e refl
one_moment text (Spaced (MonthFirst OneOrTwo Dash) times.CompactSeconds) e = rw e refl
one_moment text (Spaced (MonthFirst OneOrTwo Dash) times.Minutes) e = rw e refl
one_moment text (Spaced (MonthFirst OneOrTwo Dash) times.CompactMinutes) e = rw e refl
one_moment text (Spaced (MonthFirst OneOrTwo Slash) times.Seconds) e = rw e refl
one_moment text (Spaced (MonthFirst OneOrTwo Slash) times.CompactSeconds) e = rw e refl
one_moment text (Spaced (MonthFirst OneOrTwo Slash) times.Minutes) e = rw e refl
one_moment text (Spaced (MonthFirst OneOrTwo Slash) times.CompactMinutes) e = rw e refl
one_moment text (Spaced (MonthFirst OneOrTwo Dot) times.Seconds) e = rw e refl
one_moment text (Spaced (MonthFirst OneOrTwo Dot) times.CompactSeconds) e = rw e refl
one_moment text (Spaced (MonthFirst OneOrTwo Dot) times.Minutes) e = rw e refl
one_moment text (Spaced (MonthFirst OneOrTwo Dot) times.CompactMinutes) e = rw e refl

one_time : (text : List ℕ) (f : TimeFormat) → text ≡ time_pattern f → time_format_of text ≡ Some f
one_time text times.Seconds e = rw e refl
one_time text times.CompactSeconds e = rw e refl
one_time text times.Minutes e = rw e refl
one_time text times.CompactMinutes e = rw e refl

pub date_as : (text : List ℕ) (o : Option DateFormat) → MatchOption o ((f : DateFormat) → text ≢ date_pattern f) (λ f. text ≡ date_pattern f)
    → o ≡ date_format_of text
date_as text None h = sym (none_in date_pattern text h date_formats)
date_as text (Some f) h = sym (one_date text f h)

pub moment_as : (text : List ℕ) (o : Option MomentFormat) → MatchOption o ((f : MomentFormat) → text ≢ moment_pattern f) (λ f. text ≡ moment_pattern f)
    → o ≡ moment_format_of text
moment_as text None h = sym (none_in moment_pattern text h moment_formats)
moment_as text (Some f) h = sym (one_moment text f h)

pub time_as : (text : List ℕ) (o : Option TimeFormat) → MatchOption o ((f : TimeFormat) → text ≢ time_pattern f) (λ f. text ≡ time_pattern f)
    → o ≡ time_format_of text
time_as text None h = sym (none_in time_pattern text h time_formats)
time_as text (Some f) h = sym (one_time text f h)
