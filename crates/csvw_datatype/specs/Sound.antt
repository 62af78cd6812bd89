-- Sound datatypes: their parts fit together (Metadata Vocabulary for Tabular Data, section 5.11.2; Model for Tabular Data,
-- sections 4.6.1 and 4.6.2).
use Rattle.std.specs.Prelude.{◌≡◌, ◌<◌, ◌%◌, ◌^◌, ◌&&◌, ◌||◌, not, nat_lt, Bool, true, false, Option, Some, None, IfSome, is_some, ℤ, unsigned_abs}
use Rattle.csvw_datatype_core.specs.LexicalDates.{IsDayNumber, IsMomentNumber}
use Rattle.csvw_datatype_core.specs.declared.clock.ClockFormat.TheVariants as clocks
use Rattle.csvw_datatype_core.specs.declared.date_time.Zone.TheVariants as zones
use Rattle.csvw_datatype_core.specs.Clocks.{clock_form}
use Rattle.csvw_datatype_core.specs.DateTimes.{date_time_value}
use Rattle.csvw_datatype_core.specs.DateParts.{is_date_part}
use Rattle.csvw_datatype_core.specs.ZonedDates.{zoned_date_value}
use Rattle.csvw_double.specs.Forms.{double_form}
use Rattle.csvw_duration.specs.Forms.{duration_form}
use Rattle.csvw_datatype.specs.declared.value.Value.{Value}
use Rattle.csvw_datatype.specs.declared.value.Value.TheVariants as values
use Rattle.csvw_datatype.specs.declared.simple.Simple.{Simple}
use Rattle.csvw_datatype.specs.declared.simple.Simple.TheVariants as simples
use Rattle.csvw_datatype.specs.declared.simple.TextType.{TextType}
use Rattle.csvw_datatype.specs.declared.simple.TextType.TheVariants as types
use Rattle.csvw_datatype.specs.declared.datatype.Facets.{Facets}
use Rattle.csvw_datatype.specs.declared.datatype.Datatype.{Datatype}
use Rattle.csvw_datatype.specs.Breaks.{has_lengths, is_below, fails, is_over, is_not_under}
use Rattle.csvw_datatype.specs.Formats.{IsFormatOf}
use Rattle.csvw_datatype.specs.Strings.{has_length, is_ordered}
use Rattle.csvw_datatype.specs.Widths.{IsInWidth}

-- a number that a text can spell, as a count of units of 10^-18
abbrev pub IsNumberSize : ℤ → Type 0
IsNumberSize z = unsigned_abs z < 10 ^ 38

-- a count of units of 10^-18 that is a whole number
abbrev pub IsWholeNumber : ℤ → Type 0
IsWholeNumber z = unsigned_abs z % 10 ^ 18 ≡ 0

-- a type whose values are ordered
abbrev pub has_bounds : Simple → Bool
has_bounds simples.Whole = true
has_bounds (simples.Derived w) = true
has_bounds simples.Decimal = true
has_bounds simples.Day = true
has_bounds simples.Moment = true
has_bounds (simples.Floating f) = true
has_bounds (simples.Other t) = is_ordered t
has_bounds _ = false

-- A value of a type of texts whose values are ordered: some text writes it. A day and a moment in seconds have no zone.
abbrev pub IsTextBound : TextType → Value → Type 0
IsTextBound types.Time (values.Text text) = is_some (clock_form clocks.Any text) ≡ true
IsTextBound types.Date (values.Text text) = is_some (zoned_date_value None text) ≡ true
IsTextBound types.Date (values.Day day) = IsDayNumber day
IsTextBound (types.DateTime zone) (values.Text text) = is_some (date_time_value zone text) ≡ true
IsTextBound (types.DateTime zones.Optional) (values.Moment moment) = IsMomentNumber moment
IsTextBound (types.Part part) (values.Text text) = is_date_part part text ≡ true
IsTextBound (types.Duration kind) (values.Text text) = is_some (duration_form kind text) ≡ true
IsTextBound _ _ = ⊥

-- a value that some text of the type is, and that can be a bound
abbrev pub IsBoundOf : Simple → Value → Type 0
IsBoundOf simples.Whole (values.Number z) = IsNumberSize z × IsWholeNumber z
IsBoundOf (simples.Derived w) (values.Number z) = IsNumberSize z × IsWholeNumber z × IsInWidth w z
IsBoundOf simples.Decimal (values.Number z) = IsNumberSize z
IsBoundOf simples.Day (values.Day day) = IsDayNumber day
IsBoundOf simples.Moment (values.Moment moment) = IsMomentNumber moment
IsBoundOf (simples.Floating f) (values.Text text) = is_some (double_form text) ≡ true
IsBoundOf (simples.Other t) v = IsTextBound t v
IsBoundOf _ _ = ⊥

-- each bound that there is, is one of the type; a type without bounds has none
pub record AreBoundsOf (s : Simple) (f : Facets) : Type 0 where
  pub minimum : IfSome f.minimum (IsBoundOf s)
  pub min_inclusive : IfSome f.min_inclusive (IsBoundOf s)
  pub min_exclusive : IfSome f.min_exclusive (IsBoundOf s)
  pub maximum : IfSome f.maximum (IsBoundOf s)
  pub max_inclusive : IfSome f.max_inclusive (IsBoundOf s)
  pub max_exclusive : IfSome f.max_exclusive (IsBoundOf s)

-- lengths are facets of strings, and of the types derived from them
abbrev pub lengths_apply : Simple → Facets → Bool
lengths_apply s f = has_length s || not (has_lengths f)

-- `minLength` is not above `maxLength`, and `length` is neither below `minLength` nor above `maxLength`
abbrev pub lengths_agree : Facets → Bool
lengths_agree f =
    not (fails (λ n k. nat_lt n k) f.max_length f.min_length || fails (λ n k. nat_lt n k) f.length f.min_length
    || fails (λ n k. nat_lt n k) f.max_length f.length)

-- two inclusive bounds of one side are equal, and neither is set beside an exclusive one
abbrev pub side_agrees : Simple → Option Value → Option Value → Option Value → Bool
side_agrees s bound inclusive exclusive =
    not (fails (λ a b. is_below s a b || is_below s b a) bound inclusive) && not (is_some exclusive && (is_some bound || is_some inclusive))

-- the first one that is set
abbrev pub first_of : Option Value → Option Value → Option Value
first_of None b = b
first_of (Some a) b = Some a

-- a lower bound isn't above an upper one; it isn't equal to it if exactly one of them is exclusive
abbrev pub sides_agree : Simple → Option Value → Option Value → Option Value → Option Value → Bool
sides_agree s low low_exclusive high high_exclusive =
    not (is_over s low high || is_over s low_exclusive high_exclusive || is_not_under s low high_exclusive || is_not_under s low_exclusive high)

abbrev pub bounds_agree : Simple → Facets → Bool
bounds_agree s f =
    side_agrees s f.minimum f.min_inclusive f.min_exclusive && side_agrees s f.maximum f.max_inclusive f.max_exclusive
    && sides_agree s (first_of f.minimum f.min_inclusive) f.min_exclusive (first_of f.maximum f.max_inclusive) f.max_exclusive

-- no facet of a type rules out what another asks for
abbrev pub agree : Simple → Facets → Bool
agree s f = lengths_agree f && bounds_agree s f

-- the format and the facets fit the type and each other
pub record IsSound (d : Datatype) : Type 0 where
  pub format : IsFormatOf d.simple d.format
  pub bounds : AreBoundsOf d.simple d.facets
  pub lengths_apply : lengths_apply d.simple d.facets ≡ true
  pub lengths_agree : lengths_agree d.facets ≡ true
  pub bounds_agree : bounds_agree d.simple d.facets ≡ true
