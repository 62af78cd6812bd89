-- The patterns of moments that may have parts of a second and a zone (Model for Tabular Data, section 6.4.4), with the letters of Unicode Technical
-- Standard 35, "Date Field Symbol Table".
use Rattle.std.specs.Prelude.{ℕ, zero, suc, ◌-◌, ◌==◌, ◌&&◌, nat_le, Bool, true, false, Option, Some, None, if◌then◌else◌, List, [], ◌∷◌, ◌++◌, length}
use Rattle.csvw_datatype_core.specs.declared.moment.MomentFormat.{MomentFormat}
use Rattle.csvw_datatype_core.specs.declared.moment.MomentFormat.TheVariants.{Seconds, Minutes, Spaced}
use Rattle.csvw_datatype_core.specs.declared.time.TimeFormat.TheVariants as times
use Rattle.csvw_datatype_core.specs.declared.stamp_format.OffsetForm.{OffsetForm}
use Rattle.csvw_datatype_core.specs.declared.stamp_format.OffsetForm.TheVariants as forms
use Rattle.csvw_datatype_core.specs.declared.stamp_format.UtcMark.{UtcMark}
use Rattle.csvw_datatype_core.specs.declared.stamp_format.UtcMark.TheVariants as marks
use Rattle.csvw_datatype_core.specs.declared.stamp_format.ZoneGap.{ZoneGap}
use Rattle.csvw_datatype_core.specs.declared.stamp_format.ZoneGap.TheVariants as gaps
use Rattle.csvw_datatype_core.specs.declared.stamp_format.Letter.{Letter}
use Rattle.csvw_datatype_core.specs.declared.stamp_format.Letter.TheVariants as symbols
use Rattle.csvw_datatype_core.specs.declared.stamp_format.ZoneFormat.{ZoneFormat}
use Rattle.csvw_datatype_core.specs.declared.stamp_format.StampFormat.{StampFormat}
use Rattle.csvw_datatype_core.specs.DatePatterns.{moment_pattern}
use Rattle.csvw_datatype_core.specs.Fields.{◌>>=◌}
use Rattle.csvw_datatype_core.specs.PatternLists.{moment_format_of}

-- ---- the patterns

-- the same letter so many times
abbrev pub letters : ℕ → ℕ → List ℕ
letters b zero = []
letters b (suc n) = b ∷ letters b n

-- "." and a letter "S" for each digit, or nothing
abbrev pub fraction_pattern : ℕ → List ℕ
fraction_pattern zero = []
fraction_pattern (suc n) = 46 ∷ letters 83 (suc n)

abbrev pub gap_pattern : ZoneGap → List ℕ
gap_pattern gaps.None = []
gap_pattern gaps.Space = 32 ∷ []

-- "X" if "Z" is an offset, and "x" if it isn't
abbrev pub zone_letter : UtcMark → ℕ
zone_letter marks.Allowed = 88
zone_letter marks.Digits = 120

abbrev pub form_letters : OffsetForm → ℕ
form_letters forms.Short = 1
form_letters forms.Basic = 2
form_letters forms.Extended = 3

abbrev pub zone_pattern : Option ZoneFormat → List ℕ
zone_pattern None = []
zone_pattern (Some zone) = gap_pattern zone.gap ++ letters (zone_letter zone.utc) (form_letters zone.form)

abbrev pub stamp_pattern : StampFormat → List ℕ
stamp_pattern f = (moment_pattern f.moment ++ fraction_pattern f.digits) ++ zone_pattern f.zone

-- the pattern of the time of day is "HH:mm:ss"
abbrev pub has_seconds : MomentFormat → Bool
has_seconds Seconds = true
has_seconds Minutes = false
has_seconds (Spaced date times.Seconds) = true
has_seconds (Spaced date times.CompactSeconds) = false
has_seconds (Spaced date times.Minutes) = false
has_seconds (Spaced date times.CompactMinutes) = false

-- a format has up to 255 digits of a second, and they are after "HH:mm:ss"
abbrev pub is_stamp : StampFormat → Bool
is_stamp f = nat_le f.digits 255 && (if f.digits == 0 then true else has_seconds f.moment)

-- ---- how a pattern is read from its end

-- the text without the letters at its end
abbrev pub first_kept : ℕ → ℕ → List ℕ → List ℕ
first_kept b d [] = if d == b then [] else d ∷ []
first_kept b d (e ∷ es) = d ∷ e ∷ es

abbrev pub without : ℕ → List ℕ → List ℕ
without b [] = []
without b (d ∷ ds) = first_kept b d (without b ds)

-- the text before the letters at its end, and how many they are
abbrev pub run_at : ℕ → List ℕ → List ℕ × ℕ
run_at b bs = (without b bs, length bs - length (without b bs))

abbrev pub letter_byte : Letter → ℕ
letter_byte symbols.Parts = 83
letter_byte symbols.Point = 46
letter_byte symbols.Gap = 32
letter_byte symbols.Upper = 88
letter_byte symbols.Lower = 120

abbrev pub form_of : ℕ → Option OffsetForm
form_of n = if n == 1 then Some forms.Short else (if n == 2 then Some forms.Basic else (if n == 3 then Some forms.Extended else None))

abbrev pub gap_of : ℕ → Option ZoneGap
gap_of n = if n == 0 then Some gaps.None else (if n == 1 then Some gaps.Space else None)

-- the text before a gap and so many letters, and the zone
unfoldable pub zoned : UtcMark → List ℕ × ℕ → Option (List ℕ × Option ZoneFormat)
zoned utc x = do
  form ← form_of x.1
  gap ← gap_of (run_at 32 x.0).1
  Some ((run_at 32 x.0).0, Some (record { form = form; utc = utc; gap = gap }))

abbrev pub upper_zone : List ℕ → Option (List ℕ × Option ZoneFormat)
upper_zone bs = if (run_at 88 bs).1 == 0 then Some (bs, None) else zoned marks.Allowed (run_at 88 bs)

abbrev pub zone_split : List ℕ → Option (List ℕ × Option ZoneFormat)
zone_split bs = if (run_at 120 bs).1 == 0 then upper_zone bs else zoned marks.Digits (run_at 120 bs)

-- the text before one point and so many letters
abbrev pub pointed : List ℕ × ℕ → Option (List ℕ × ℕ)
pointed x = if nat_le x.1 255 && ((run_at 46 x.0).1 == 1) then Some ((run_at 46 x.0).0, x.1) else None

abbrev pub fraction_split : List ℕ → Option (List ℕ × ℕ)
fraction_split bs = if (run_at 83 bs).1 == 0 then Some (bs, 0) else pointed (run_at 83 bs)

abbrev pub stamp_if : StampFormat → Option StampFormat
stamp_if f = if is_stamp f then Some f else None

-- the format whose pattern the text is
unfoldable pub stamp_format_of : List ℕ → Option StampFormat
stamp_format_of bs = do
  z ← zone_split bs
  f ← fraction_split z.0
  m ← moment_format_of f.0
  stamp_if (record { moment = m; digits = f.1; zone = z.1 })
