-- The order of values that are kept as texts (XML Schema 1.1 Part 2, section 3.3 and appendix E.3). Some values have no order: NaN, most moments,
-- dates, days and times with a zone beside one without that are less than 14 hours apart, and some durations with months beside some without.
use Rattle.std.specs.Prelude.{ℕ, Option, Some, None, option_and_then, List, [], ℤ}
use Rattle.std.specs.declared.cmp.Ordering.{Ordering}
use Rattle.std.specs.declared.cmp.Ordering.TheVariants.{Less, Equal, Greater}
use Rattle.std.specs.Ordering.{int_cmp, nat_cmp, ordering_then}
use Rattle.csvw_datatype_core.specs.declared.date_part.DatePart.{DatePart}
use Rattle.csvw_datatype_core.specs.declared.date_part.DatePart.TheVariants as parts
use Rattle.csvw_datatype_core.specs.Clocks.{clock_instant}
use Rattle.csvw_datatype_core.specs.Instants.{Moment as Instant, local_instant, instant_of, instant_cmp}
use Rattle.csvw_datatype_core.specs.PartFields.{part_fields}
use Rattle.csvw_datatype_core.specs.PartForms.{start_of_day}
use Rattle.csvw_datatype_core.specs.ZonedDates.{day_instant, zoned_date_instant}
use Rattle.csvw_double.specs.Order.{double_cmp}
use Rattle.csvw_duration.specs.Order.{duration_cmp}
use Rattle.csvw_datatype.specs.declared.value.Value.{Value}
use Rattle.csvw_datatype.specs.declared.value.Value.TheVariants as values
use Rattle.csvw_datatype.specs.declared.simple.Simple.{Simple}
use Rattle.csvw_datatype.specs.declared.simple.Simple.TheVariants as simples
use Rattle.csvw_datatype.specs.declared.simple.TextType.TheVariants as types

-- the order of two things that are there
abbrev pub ordered : {A : Type 0} → (A → A → Option Ordering) → Option A → Option A → Option Ordering
ordered order (Some a) (Some b) = order a b
ordered order (Some a) None = None
ordered order None b = None

-- times of day are ordered as moments of one day
abbrev pub times_cmp : List ℕ → List ℕ → Option Ordering
times_cmp a b = ordered instant_cmp (clock_instant a) (clock_instant b)

-- a day without a zone is a number, and each other date a text
abbrev pub day_in : Value → Option Instant
day_in (values.Day day) = Some (day_instant day)
day_in (values.Text text) = zoned_date_instant text
day_in _ = None

-- dates are ordered by the moments at which they begin
abbrev pub dates_cmp : Value → Value → Option Ordering
dates_cmp a b = ordered instant_cmp (day_in a) (day_in b)

-- a whole second without a zone is a number, and each other moment a text
abbrev pub instant_in : Value → Option Instant
instant_in (values.Moment moment) = Some (local_instant moment)
instant_in (values.Text text) = instant_of text
instant_in _ = None

abbrev pub moments_cmp : Value → Value → Option Ordering
moments_cmp a b = ordered instant_cmp (instant_in a) (instant_in b)

-- parts of dates have both a year or both none
abbrev pub years_cmp : List ℕ → List ℕ → Option Ordering
years_cmp [] [] = Some Equal
years_cmp a b = double_cmp a b

-- The part with the greater offset begins first. A part with a zone and one without have no order, since an offset has at most 14 hours.
abbrev pub zones_cmp : Option ℤ → Option ℤ → Option Ordering
zones_cmp (Some a) (Some b) = Some (int_cmp b a)
zones_cmp None None = Some Equal
zones_cmp (Some a) None = None
zones_cmp None (Some b) = None

-- zones count only if years, months and days are the same, since other parts are more than 28 hours apart
abbrev pub then_zones : Option ℤ → Option ℤ → Ordering → Option Ordering
then_zones a b Equal = zones_cmp a b
then_zones a b Less = Some Less
then_zones a b Greater = Some Greater

abbrev pub fields_cmp : List ℕ × ℕ × ℕ × Option ℤ → List ℕ × ℕ × ℕ × Option ℤ → Option Ordering
fields_cmp a b =
    option_and_then (λ years. then_zones a.3 b.3 (ordering_then (ordering_then years (nat_cmp a.1 b.1)) (nat_cmp a.2 b.2))) (years_cmp a.0 b.0)

-- days are ordered as the moments at which they begin
abbrev pub days_cmp : List ℕ × ℕ × ℕ × Option ℤ → List ℕ × ℕ × ℕ × Option ℤ → Option Ordering
days_cmp a b = instant_cmp (start_of_day a.1 a.2 a.3) (start_of_day b.1 b.2 b.3)

abbrev pub part_cmp : DatePart → List ℕ × ℕ × ℕ × Option ℤ → List ℕ × ℕ × ℕ × Option ℤ → Option Ordering
part_cmp parts.Year a b = fields_cmp a b
part_cmp parts.YearMonth a b = fields_cmp a b
part_cmp parts.Month a b = fields_cmp a b
part_cmp parts.MonthDay a b = days_cmp a b
part_cmp parts.Day a b = days_cmp a b

abbrev pub parts_cmp : DatePart → List ℕ → List ℕ → Option Ordering
parts_cmp part a b = ordered (part_cmp part) (part_fields part a) (part_fields part b)

-- how a value of a type stands to another, if both have an order
abbrev pub kept_cmp : Simple → Value → Value → Option Ordering
kept_cmp (simples.Floating t) (values.Text a) (values.Text b) = double_cmp a b
kept_cmp (simples.Other types.Time) (values.Text a) (values.Text b) = times_cmp a b
kept_cmp (simples.Other types.Date) a b = dates_cmp a b
kept_cmp (simples.Other (types.DateTime zone)) a b = moments_cmp a b
kept_cmp (simples.Other (types.Part part)) (values.Text a) (values.Text b) = parts_cmp part a b
kept_cmp (simples.Other (types.Duration kind)) (values.Text a) (values.Text b) = duration_cmp a b
kept_cmp _ _ _ = None
