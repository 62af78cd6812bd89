-- A text is one moment at most, in the years 0001 to 9999, and the functions return it.
use Rattle.std.proofs.Common.{◌≡◌, ℕ, List, ℤ, MatchOption}
use Rattle.csvw_datatype_core.specs.declared.moment.MomentFormat.{MomentFormat}
use Rattle.csvw_datatype_core.specs.declared.moment.MomentFormat.TheVariants.{Seconds, Minutes, Spaced}
use Rattle.csvw_datatype_core.specs.Moments.{ReadsMoment}
use Rattle.csvw_datatype_core.specs.LexicalDates.{IsMomentNumber}
use Rattle.csvw_datatype_core.specs.Values.{moment_value}
use Rattle.csvw_datatype_core.proofs.LexicalDateLemmas.{joined_in_range}
use Rattle.csvw_datatype_core.proofs.OneValue.{one_joined}
use Rattle.csvw_datatype_core.proofs.ValueLemmas.{joined_given}
use Rattle.csvw_datatype_core.proofs.SpacedLemmas.{one_spaced, spaced_in_range, spaced_given}

pub one_moment : (f : MomentFormat) (text : List ℕ) (a b : ℤ) → ReadsMoment f text a → ReadsMoment f text b → a ≡ b
one_moment Seconds text a b r s = one_joined Seconds text a b r s
one_moment Minutes text a b r s = one_joined Minutes text a b r s
one_moment (Spaced date time) text a b r s = one_spaced date time text a b r s

pub moment_in_range : (f : MomentFormat) (text : List ℕ) (moment : ℤ) → ReadsMoment f text moment → IsMomentNumber moment
moment_in_range Seconds text moment r = joined_in_range Seconds text moment r
moment_in_range Minutes text moment r = joined_in_range Minutes text moment r
moment_in_range (Spaced date time) text moment r = spaced_in_range date time text moment r

pub moment_given : (f : MomentFormat) (text : List ℕ)
    → MatchOption (moment_value f text) ((moment : ℤ) → ReadsMoment f text moment → ⊥) (ReadsMoment f text)
moment_given Seconds text = joined_given Seconds text
moment_given Minutes text = joined_given Minutes text
moment_given (Spaced date time) text = spaced_given date time text
