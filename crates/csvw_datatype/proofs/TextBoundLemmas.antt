-- Each value of a type of texts that are ordered can be a bound: its text is its own text. The check doesn't find it by itself: it takes the cases apart.
use Rattle.std.proofs.Common.{◌≡◌, ℕ, Bool, true, false, Option, Some, None, is_some, List, refl, sym, ap, ℤ}
use Rattle.csvw_datatype_core.specs.declared.clock.ClockFormat.{ClockFormat}
use Rattle.csvw_datatype_core.specs.declared.clock.ClockFormat.TheVariants as clocks
use Rattle.csvw_datatype_core.specs.declared.stamp_format.StampFormat.{StampFormat}
use Rattle.csvw_datatype_core.specs.declared.date_part.DatePart.{DatePart}
use Rattle.csvw_datatype_core.specs.declared.date_time.DateTime.{DateTime}
use Rattle.csvw_datatype_core.specs.declared.date_time.DateTime.TheVariants as date_times
use Rattle.csvw_datatype_core.specs.declared.date_time.Zone.{Zone}
use Rattle.csvw_datatype_core.specs.declared.date_time.Zone.TheVariants as zones
use Rattle.csvw_datatype_core.specs.Clocks.{clock_form}
use Rattle.csvw_datatype_core.specs.Stamps.{stamp_value}
use Rattle.csvw_datatype_core.specs.DateParts.{is_date_part}
use Rattle.csvw_datatype_core.specs.DateTimes.{date_time_value}
use Rattle.csvw_datatype_core.specs.declared.zoned_date.ZonedDate.{ZonedDate}
use Rattle.csvw_datatype_core.specs.declared.zoned_date.ZonedDate.TheVariants as dates
use Rattle.csvw_datatype_core.specs.declared.zoned_date.ZonedDateFormat.{ZonedDateFormat}
use Rattle.csvw_datatype_core.specs.ZonedDates.{zoned_date_value}
use Rattle.csvw_datatype_core.specs.PartForms.{date_part_form}
use Rattle.csvw_duration.specs.declared.value.DurationKind.{DurationKind}
use Rattle.csvw_duration.specs.Forms.{duration_form}
use Rattle.csvw_datatype.specs.declared.value.Value.{Value}
use Rattle.csvw_datatype.specs.declared.value.Value.TheVariants as values
use Rattle.csvw_datatype.specs.declared.simple.TextType.{TextType}
use Rattle.csvw_datatype.specs.declared.simple.TextType.TheVariants as types
use Rattle.csvw_datatype.specs.declared.format.Format.{Format}
use Rattle.csvw_datatype.specs.declared.format.Format.TheVariants as formats
use Rattle.csvw_datatype.specs.Formats.{is_described}
use Rattle.csvw_datatype.specs.Strings.{is_ordered}
use Rattle.csvw_datatype.specs.TextValues.{clock_format, date_kept, moment_in, text_value, kept, kept_if, date_time_kept, zoned_format}
use Rattle.csvw_datatype.specs.Sound.{IsTextBound}
use Rattle.csvw_datatype.proofs.LawLemmas.{DateTimesInRange, ZonedDatesInRange, at_value, same_value}

-- the laws of the crates below: the text of a value is its own text, and so one of its type
pub record TextsStay : Type 0 where
  pub time : (format : ClockFormat) (text form : List ℕ) → clock_form format text ≡ Some form → clock_form clocks.Any form ≡ Some form
  pub part : (part : DatePart) (text form : List ℕ) → date_part_form part text ≡ Some form → is_date_part part form ≡ true
  pub second : DateTimesInRange
  pub zone : (f : Option Format) (text : List ℕ) (moment : ℤ) → moment_in f zones.Required text ≡ Some (date_times.Second moment) → ⊥
  pub written : (f : Option Format) (zone : Zone) (text form : List ℕ) → moment_in f zone text ≡ Some (date_times.Written form)
      → date_time_value zone form ≡ Some (date_times.Written form)
  pub day : ZonedDatesInRange
  pub dated : (f : Option ZonedDateFormat) (text form : List ℕ) → zoned_date_value f text ≡ Some (dates.Written form)
      → zoned_date_value None form ≡ Some (dates.Written form)
  pub duration : (kind : DurationKind) (text form : List ℕ) → duration_form kind text ≡ Some form → duration_form kind form ≡ Some form

-- a law of moments without a format and in one is a law of moments in any format
abbrev OfMoments : (Option DateTime → Zone → List ℕ → Type 0) → Type 0
OfMoments P = (f : Option Format) (zone : Zone) (text : List ℕ) → P (moment_in f zone text) zone text

pub of_moments : (P : Option DateTime → Zone → List ℕ → Type 0) → ((zone : Zone) (text : List ℕ) → P (date_time_value zone text) zone text)
    → ((f : StampFormat) (zone : Zone) (text : List ℕ) → P (stamp_value f zone text) zone text) → OfMoments P
of_moments P plain stamped None zone text = plain zone text
of_moments P plain stamped (Some (formats.Stamp f)) zone text = stamped f zone text
of_moments P plain stamped (Some (formats.Truth f)) zone text = plain zone text
of_moments P plain stamped (Some (formats.Number f)) zone text = plain zone text
of_moments P plain stamped (Some (formats.Day f)) zone text = plain zone text
of_moments P plain stamped (Some (formats.Moment f)) zone text = plain zone text
of_moments P plain stamped (Some (formats.Time f)) zone text = plain zone text
of_moments P plain stamped (Some (formats.ZonedDay f)) zone text = plain zone text
of_moments P plain stamped (Some (formats.Expression e)) zone text = plain zone text

abbrev pub NeverLocal : Option DateTime → Zone → List ℕ → Type 0
NeverLocal o zones.Optional text = Unit {0}
NeverLocal o zones.Required text = (moment : ℤ) → o ≡ Some (date_times.Second moment) → ⊥

never_plain : ((text : List ℕ) (moment : ℤ) → date_time_value zones.Required text ≡ Some (date_times.Second moment) → ⊥)
    → (zone : Zone) (text : List ℕ) → NeverLocal (date_time_value zone text) zone text
never_plain never zones.Optional text = tt
never_plain never zones.Required text = never text

never_stamped : ((f : StampFormat) (text : List ℕ) (moment : ℤ) → stamp_value f zones.Required text ≡ Some (date_times.Second moment) → ⊥)
    → (f : StampFormat) (zone : Zone) (text : List ℕ) → NeverLocal (stamp_value f zone text) zone text
never_stamped never f zones.Optional text = tt
never_stamped never f zones.Required text = never f text

pub never_local : ((text : List ℕ) (moment : ℤ) → date_time_value zones.Required text ≡ Some (date_times.Second moment) → ⊥)
    → ((f : StampFormat) (text : List ℕ) (moment : ℤ) → stamp_value f zones.Required text ≡ Some (date_times.Second moment) → ⊥)
    → (f : Option Format) (text : List ℕ) (moment : ℤ) → moment_in f zones.Required text ≡ Some (date_times.Second moment) → ⊥
never_local plain stamped f text = of_moments NeverLocal (never_plain plain) (never_stamped stamped) f zones.Required text

time_bound : TextsStay → (f : ClockFormat) (text : List ℕ) (o : Option (List ℕ)) (v : Value) → clock_form f text ≡ o → kept o ≡ Some v
    → IsTextBound types.Time v
time_bound stay f text None v is e = cc
time_bound stay f text (Some form) v is e =
    at_value (λ v. IsTextBound types.Time v) v (values.Text form) (sym (same_value e)) (ap is_some (stay.time f text form is))

part_bound : TextsStay → (part : DatePart) (text : List ℕ) (o : Option (List ℕ)) (v : Value) → date_part_form part text ≡ o → kept o ≡ Some v
    → IsTextBound (types.Part part) v
part_bound stay part text None v is e = cc
part_bound stay part text (Some form) v is e =
    at_value (λ v. IsTextBound (types.Part part) v) v (values.Text form) (sym (same_value e))
    (stay.part part text form is)

duration_bound : TextsStay → (kind : DurationKind) (text : List ℕ) (b : Bool) (o : Option (List ℕ)) (v : Value) → duration_form kind text ≡ o
    → kept_if b o ≡ Some v → IsTextBound (types.Duration kind) v
duration_bound stay kind text false o v is e = cc
duration_bound stay kind text true None v is e = cc
duration_bound stay kind text true (Some form) v is e =
    at_value (λ v. IsTextBound (types.Duration kind) v) v (values.Text form) (sym (same_value e)) (ap is_some (stay.duration kind text form is))

second_bound : TextsStay → (f : Option Format) (zone : Zone) (text : List ℕ) (moment : ℤ) → moment_in f zone text ≡ Some (date_times.Second moment)
    → IsTextBound (types.DateTime zone) (values.Moment moment)
second_bound stay f zones.Optional text moment is = stay.second f zones.Optional text moment is
second_bound stay f zones.Required text moment is = stay.zone f text moment is

date_time_bound : TextsStay → (f : Option Format) (zone : Zone) (text : List ℕ) (o : Option DateTime) (v : Value) → moment_in f zone text ≡ o
    → date_time_kept o ≡ Some v → IsTextBound (types.DateTime zone) v
date_time_bound stay f zone text None v is e = cc
date_time_bound stay f zone text (Some (date_times.Second moment)) v is e =
    at_value (λ v. IsTextBound (types.DateTime zone) v) v (values.Moment moment) (sym (same_value e)) (second_bound stay f zone text moment is)
date_time_bound stay f zone text (Some (date_times.Written form)) v is e =
    at_value (λ v. IsTextBound (types.DateTime zone) v) v (values.Text form) (sym (same_value e)) (ap is_some (stay.written f zone text form is))

date_bound : TextsStay → (f : Option ZonedDateFormat) (text : List ℕ) (o : Option ZonedDate) (v : Value) → zoned_date_value f text ≡ o
    → date_kept o ≡ Some v → IsTextBound types.Date v
date_bound stay f text None v is e = cc
date_bound stay f text (Some (dates.Day day)) v is e =
    at_value (λ v. IsTextBound types.Date v) v (values.Day day) (sym (same_value e)) (stay.day f text day is)
date_bound stay f text (Some (dates.Written form)) v is e =
    at_value (λ v. IsTextBound types.Date v) v (values.Text form) (sym (same_value e)) (ap is_some (stay.dated f text form is))

pub text_is_bound : TextsStay → (t : TextType) (f : Option Format) (text : List ℕ) (v : Value) → is_ordered t ≡ true → text_value t f text ≡ Some v
    → IsTextBound t v
unfolding text_value
text_is_bound stay types.Any f text v h e = cc
text_is_bound stay types.Normalized f text v h e = cc
text_is_bound stay types.Token f text v h e = cc
text_is_bound stay types.Language f text v h e = cc
text_is_bound stay types.Name f text v h e = cc
text_is_bound stay types.NameToken f text v h e = cc
text_is_bound stay types.QualifiedName f text v h e = cc
text_is_bound stay types.Xml f text v h e = cc
text_is_bound stay types.Html f text v h e = cc
text_is_bound stay types.Json f text v h e = cc
text_is_bound stay types.Time f text v h e = time_bound stay (clock_format f) text _ v refl e
text_is_bound stay types.Date f text v h e = date_bound stay (zoned_format f) text _ v refl e
text_is_bound stay (types.DateTime zone) f text v h e = date_time_bound stay f zone text _ v refl e
text_is_bound stay (types.Part part) f text v h e = part_bound stay part text _ v refl e
text_is_bound stay (types.Binary form) f text v h e = cc
text_is_bound stay (types.Duration kind) f text v h e = duration_bound stay kind text (is_described f text) _ v refl e
